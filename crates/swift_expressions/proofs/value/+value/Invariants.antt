use Rattle.std.proofs.Common.{◌+◌, ◌*◌, ◌-◌, IsNone, length}
use Rattle.swift_expressions.specs.Lowered.{Hands, no_operands}
use Rattle.swift_expressions.specs.States.{State, state_of}
use Rattle.swift_expressions.specs.declared.operands.Operands.{Operands}
use Rattle.swift_expressions.proofs.value.+value.Given as goal

abbrev pub decreases-binary : goal.decreases-binary
decreases-binary l = l.depth * 3 + 1

abbrev pub decreases-shortcut : goal.decreases-shortcut
decreases-shortcut l = l.depth * 3 + 1

abbrev pub decreases-choice : goal.decreases-choice
decreases-choice l = l.depth * 3 + 1

abbrev pub decreases-awaited : goal.decreases-awaited
decreases-awaited l = l.depth * 3 + 1

abbrev pub decreases-tried : goal.decreases-tried
decreases-tried l = l.depth * 3 + 1

abbrev pub decreases-negated : goal.decreases-negated
decreases-negated l = l.depth * 3 + 1

abbrev pub decreases-inverted : goal.decreases-inverted
decreases-inverted l = l.depth * 3 + 1

abbrev pub decreases-given_operands : goal.decreases-given_operands
decreases-given_operands l = l.depth * 3 + 2

abbrev pub decreases-otherwise : goal.decreases-otherwise
decreases-otherwise l = l.depth * 3 + 1

abbrev pub decreases-lower_operands : goal.decreases-lower_operands
decreases-lower_operands l = l.depth * 3 + 1

abbrev pub decreases-value : goal.decreases-value
decreases-value l = l.depth * 3

-- what the other arguments become is what all of them do
abbrev pub invariant-lower_operands-loop : goal.invariant-lower_operands-loop
invariant-lower_operands-loop l =
    record {
      refused : IsNone l.lowering.refused → IsNone l.fn.lowering.refused;
      hands : IsNone l.lowering.refused → (t : State) (found : Operands) → Hands (length l.fn.lowering.tree.now.value.arguments.items - l.counter) (state_of l.lowering) l.place l.found t found → Hands (length l.fn.lowering.tree.now.value.arguments.items) (state_of l.fn.lowering) l.first no_operands t found;
    }
