use Rattle.std.proofs.Common.{◌+◌, ◌-◌, ◌*◌, IsNone, length}
use Rattle.swift_expressions.specs.States.{State, state_of}
use Rattle.swift_lowering.specs.Blocks.{AttemptsAll, DoesAll}
use Rattle.swift_lowering.proofs.statement.+statement.Given as goal

abbrev pub decreases-closure : goal.decreases-closure
decreases-closure l = l.depth * 8 + 2

abbrev pub decreases-say : goal.decreases-say
decreases-say l = l.depth * 8 + 1

abbrev pub decreases-say_closed : goal.decreases-say_closed
decreases-say_closed l = l.depth * 8 + 2

abbrev pub decreases-block : goal.decreases-block
decreases-block l = l.depth * 8 + 1

abbrev pub decreases-conditional : goal.decreases-conditional
decreases-conditional l = l.depth * 8 + 3

abbrev pub decreases-otherwise : goal.decreases-otherwise
decreases-otherwise l = l.depth * 8 + 2

abbrev pub decreases-repeated : goal.decreases-repeated
decreases-repeated l = l.depth * 8 + 2

abbrev pub decreases-loop_while : goal.decreases-loop_while
decreases-loop_while l = l.depth * 8 + 3

abbrev pub decreases-loop_for : goal.decreases-loop_for
decreases-loop_for l = l.depth * 8 + 3

abbrev pub decreases-closure_block : goal.decreases-closure_block
decreases-closure_block l = l.depth * 8 + 3

abbrev pub decreases-grouped : goal.decreases-grouped
decreases-grouped l = l.depth * 8 + 4

abbrev pub decreases-bound : goal.decreases-bound
decreases-bound l = l.depth * 8 + 4

abbrev pub decreases-statement : goal.decreases-statement
decreases-statement l = l.depth * 8 + 7

abbrev pub decreases-statements : goal.decreases-statements
decreases-statements l = l.depth * 8

abbrev pub decreases-guarded : goal.decreases-guarded
decreases-guarded l = l.depth * 8 + 2

abbrev pub decreases-loop_results : goal.decreases-loop_results
decreases-loop_results l = l.depth * 8 + 3

abbrev pub decreases-task : goal.decreases-task
decreases-task l = l.depth * 8 + 3

abbrev pub decreases-group_child : goal.decreases-group_child
decreases-group_child l = l.depth * 8 + 3

abbrev pub decreases-child : goal.decreases-child
decreases-child l = l.depth * 8 + 3

abbrev pub decreases-do_catch : goal.decreases-do_catch
decreases-do_catch l = l.depth * 8 + 2

abbrev pub decreases-do_block : goal.decreases-do_block
decreases-do_block l = l.depth * 8 + 1

abbrev pub decreases-do_statements : goal.decreases-do_statements
decreases-do_statements l = l.depth * 8

-- what the other statements become is what all of them do
abbrev pub invariant-statements-loop : goal.invariant-statements-loop
invariant-statements-loop l =
    record {
      refused : IsNone l.lowering.refused → IsNone l.fn.lowering.refused;
      does : IsNone l.lowering.refused → (t : State) → DoesAll (length l.fn.lowering.tree.now.value.stmts.items - l.counter) (state_of l.lowering) l.place t → DoesAll (length l.fn.lowering.tree.now.value.stmts.items) (state_of l.fn.lowering) l.first t;
    }

abbrev pub invariant-do_statements-loop : goal.invariant-do_statements-loop
invariant-do_statements-loop l =
    record {
      refused : IsNone l.lowering.refused → IsNone l.fn.lowering.refused;
      attempts : IsNone l.lowering.refused → (t : State) → AttemptsAll (length l.fn.lowering.tree.now.value.stmts.items - l.counter) (state_of l.lowering) l.flag l.token l.place t → AttemptsAll (length l.fn.lowering.tree.now.value.stmts.items) (state_of l.fn.lowering) l.flag l.token l.first t;
    }
