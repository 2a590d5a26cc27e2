use Rattle.swift_escalation.proofs.Prelude.{◌≡◌, ℕ, ◌≤◌, ◌<◌, Some, length, vec_capacity, rank, level_of, edge_at, end_of, Raising}
use Rattle.swift_escalation.proofs.graph.raise_followers.Given as goal

abbrev pub invariant-loop-next : goal.invariant-loop-next
invariant-loop-next l = record {
  raising : Raising l.edges l.task (rank l.fn.level) l.initial.levels l.levels l.initial.raised.items l.raised.items;
  chain : (k : ℕ) → l.next ≡ Some k → (edge_at l.edges k).from ≡ l.task;
  inside : end_of l.next ≤ length l.edges;
  done : (j : ℕ) → j < length l.edges → (edge_at l.edges j).from ≡ l.task → end_of l.next ≤ j → rank l.fn.level ≤ level_of l.levels (edge_at l.edges j).to;
  capacity : vec_capacity l.initial.raised ≤ vec_capacity l.raised;
}

abbrev pub decreases-loop-next : goal.decreases-loop-next
decreases-loop-next l = end_of l.next
