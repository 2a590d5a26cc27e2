use Rattle.std.proofs.Common.{◌≡◌, ◌-◌, length}
use Rattle.swift_expressions.specs.States.{state_of}
use Rattle.swift_lowering.specs.Returning.{any_within, has_rest, leaves_early}
use Rattle.swift_lowering.proofs.returns.leaves_early.Given as goal

-- what is found among the others is what is found among all
abbrev pub invariant-loop : goal.invariant-loop
invariant-loop l = any_within (state_of l.lowering) (has_rest (state_of l.lowering)) (length l.lowering.tree.now.value.stmts.items - l.counter) l.place ≡ leaves_early (state_of l.lowering) l.first
