use Rattle.std.proofs.Common.{◌-◌, ℕ, IsNone, length}
use Rattle.swift_expressions.specs.States.{State, state_of}
use Rattle.swift_expressions.specs.declared.code.TheConstants.{NONE}
use Rattle.swift_lowering.specs.Catching.{HandsOn}
use Rattle.swift_lowering.proofs.catching.hand_over.Given as goal

-- what the other operands become is what all of them do
abbrev pub invariant-loop : goal.invariant-loop
invariant-loop l =
    record {
      refused : IsNone l.lowering.refused → IsNone l.fn.lowering.refused;
      hands : IsNone l.lowering.refused → (t : State) → (found : ℕ) → HandsOn (length l.fn.lowering.code.operands.items - l.counter) (state_of l.lowering) l.place l.begin l.last t found → HandsOn (length l.fn.lowering.code.operands.items) (state_of l.fn.lowering) l.first NONE NONE t found;
    }
