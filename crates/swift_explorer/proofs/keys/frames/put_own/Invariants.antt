use Rattle.swift_explorer.proofs.Prelude.{◌≡◌, ◌++◌, map, take, pair_of, some_numbers, binding_numbers}
use Rattle.swift_explorer.proofs.keys.frames.put_own.Given as goal

abbrev pub invariant-loop-binding : goal.invariant-loop-binding
invariant-loop-binding l = l.key.items ≡ l.initial.key.items ++ some_numbers binding_numbers (take l.binding-index (map pair_of l.own))
