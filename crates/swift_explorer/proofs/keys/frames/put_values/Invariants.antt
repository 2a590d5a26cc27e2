use Rattle.swift_explorer.proofs.Prelude.{◌≡◌, ◌++◌, take, some_numbers, value_numbers}
use Rattle.swift_explorer.proofs.keys.frames.put_values.Given as goal

abbrev pub invariant-loop-value : goal.invariant-loop-value
invariant-loop-value l = l.key.items ≡ l.initial.key.items ++ some_numbers value_numbers (take l.value-index l.values)
