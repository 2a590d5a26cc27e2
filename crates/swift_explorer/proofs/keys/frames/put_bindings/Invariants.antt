use Rattle.swift_explorer.proofs.Prelude.{◌≡◌, ◌++◌, reverse, take, some_numbers, binding_numbers}
use Rattle.swift_explorer.proofs.keys.frames.put_bindings.Given as goal

abbrev pub invariant-loop-place : goal.invariant-loop-place
invariant-loop-place l = l.key.items ≡ l.initial.key.items ++ some_numbers binding_numbers (take l.place (reverse l.bindings))
