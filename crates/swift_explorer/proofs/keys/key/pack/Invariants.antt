use Rattle.swift_explorer.proofs.Prelude.{◌≡◌, take, all_packed}
use Rattle.swift_explorer.proofs.keys.key.pack.Given as goal

abbrev pub invariant-loop-number : goal.invariant-loop-number
invariant-loop-number l = l.bytes.items ≡ all_packed (take l.number-index l.numbers)
