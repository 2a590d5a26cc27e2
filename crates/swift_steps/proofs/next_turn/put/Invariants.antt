use Rattle.swift_steps.proofs.Prelude.{◌≡◌, ℕ, ◌+◌, ◌-◌, vec_len, given_at}
use Rattle.swift_steps.proofs.next_turn.put.Given as goal

abbrev pub invariant-loop-tasks : goal.invariant-loop-tasks
invariant-loop-tasks l = (u : ℕ) → given_at l.tasks.items u ≡ given_at l.fn.tasks.items u

abbrev pub decreases-loop-tasks : goal.decreases-loop-tasks
decreases-loop-tasks l = l.place + 1 - vec_len l.tasks
