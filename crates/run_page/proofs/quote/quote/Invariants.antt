use Rattle.run_page.proofs.Prelude.{◌≡◌, ◌++◌, drop, quoted}
use Rattle.run_page.proofs.quote.quote.Given as goal

abbrev pub invariant-loop-byte : goal.invariant-loop-byte
invariant-loop-byte l = l.out.items ++ quoted (drop l.byte-index l.text) ≡ l.initial.out.items ++ quoted l.text
