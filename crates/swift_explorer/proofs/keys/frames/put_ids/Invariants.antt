use Rattle.swift_explorer.proofs.Prelude.{◌≡◌, ◌++◌, take, some_numbers, number_numbers}
use Rattle.swift_explorer.proofs.keys.frames.put_ids.Given as goal

abbrev pub invariant-loop-id : goal.invariant-loop-id
invariant-loop-id l = l.key.items ≡ l.initial.key.items ++ some_numbers number_numbers (take l.id-index l.ids)
