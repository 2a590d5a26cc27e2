use Rattle.swift_explorer.proofs.Prelude.{◌≡◌, ◌++◌, take, some_numbers, end_numbers}
use Rattle.swift_explorer.proofs.search.put_endings.Given as goal

abbrev pub invariant-loop-origin : goal.invariant-loop-origin
invariant-loop-origin l = l.key.items ≡ l.initial.key.items ++ some_numbers end_numbers (take l.origin-index l.endings)
