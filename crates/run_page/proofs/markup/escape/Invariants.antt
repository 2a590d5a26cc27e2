use Rattle.run_page.proofs.Prelude.{◌≡◌, ◌++◌, drop, escaped}
use Rattle.run_page.proofs.markup.escape.Given as goal

abbrev pub invariant-loop-byte : goal.invariant-loop-byte
invariant-loop-byte l = l.out.items ++ escaped (drop l.byte-index l.json) ≡ l.initial.out.items ++ escaped l.json
