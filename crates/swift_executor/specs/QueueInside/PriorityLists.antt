-- The lists of all priorities as a queue sees them.
use Rattle.std.specs.Prelude.{ℕ, List}
use Rattle.swift_executor.specs.declared.queue.waiting.Waiting.{Waiting}

-- the jobs of all lists, and the room for them
pub record PriorityListsView (B : Type 0) : Type 0 where
  pub jobs : List (Waiting B)
  pub room : ℕ
