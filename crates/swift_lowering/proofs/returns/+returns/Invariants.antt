use Rattle.std.proofs.Common.{◌≡◌, ◌+◌, ◌-◌, ◌*◌, length}
use Rattle.swift_expressions.specs.States.{state_of}
use Rattle.swift_lowering.specs.Returning.{any_of, any_within, block_returns, returns_by}
use Rattle.swift_lowering.proofs.returns.+returns.Given as goal

abbrev pub decreases-block_returns : goal.decreases-block_returns
decreases-block_returns l = l.depth * 2

abbrev pub decreases-returns : goal.decreases-returns
decreases-returns l = l.depth * 2 + 1

-- what is found among the others is what is found among all
abbrev pub invariant-block_returns-loop : goal.invariant-block_returns-loop
invariant-block_returns-loop l = any_within (state_of l.lowering) (λ stmt. returns_by (block_returns (state_of l.lowering) (l.depth - 1)) stmt.form) (length l.lowering.tree.now.value.stmts.items - l.counter) l.place ≡ any_of (state_of l.lowering) (λ stmt. returns_by (block_returns (state_of l.lowering) (l.depth - 1)) stmt.form) l.first
