-- Turns that are aside, when they are committed in a book that was taken. No public clause names these.
use Rattle.std.specs.Prelude.{◌≡◌, ℕ, Bool, true, None, List}
use Rattle.swift_turn.specs.Body.{BodyView}
use Rattle.swift_history.specs.TurnEnds.{JobFacts}
use Rattle.swift_course.specs.Views.{BookKnown}
use Rattle.swift_shared_book.specs.Shared.{BookLockView, seat_of}
use Rattle.swift_shared_book.specs.declared.commits.Committed.{Committed}
use Rattle.swift_shared_book.specs.declared.commits.Committed.TheVariants as committed
use Rattle.swift_executor.specs.AsideInside.{IsAside, after_aside}
use Rattle.swift_executor.specs.PlayedAheadInside.{AppliesThere, BeginsThere, HasAhead}
use Rattle.swift_executor.specs.Ready.{ReadyJobsView}
use Rattle.swift_executor.specs.State.{ExecInvariant, ExecStateView, HasChosen}
use Rattle.swift_executor.specs.declared.aside.Aside.{Aside}

-- The turn is aside, and may be committed: in this state it was played ahead by a seat of the lock that knows this, and the levels that
-- were given are still the same.
pub record MayCommit (worker : ℕ) (l : BookLockView) (ready : ReadyJobsView BodyView) (knows : BookKnown) (a : Aside) (s : ExecStateView) : Type 0 where
  pub is : IsAside s a
  pub keeps : ExecInvariant s
  pub ahead : HasAhead worker (seat_of l knows) s
  pub script_is : l.script ≡ s.script
  pub levels : ready.levels ≡ s.ready.levels
  pub counted : ready.counted ≡ s.ready.counted

-- It has begun as it was played, and is journalled: the state that was after it is so, and keeps what an executor keeps.
pub record AppliesAside (worker : ℕ) (l : BookLockView) (jobs jobs' : List JobFacts) (v w : BookKnown) (was is : Bool) (a : Aside) (s : ExecStateView) (x : IsAside s a) : Type 0 where
  pub applies : HasChosen s (AppliesThere worker x.job.task jobs jobs' (seat_of l v) (seat_of l w) was is s (after_aside s a x))
  pub keeps : ExecInvariant (after_aside s a x)

-- what was done with a turn that was aside, by the answer
abbrev pub CommitsAside : ℕ → BookLockView → List JobFacts → List JobFacts → BookKnown → BookKnown → Bool → Bool → (a : Aside) → (s : ExecStateView) → IsAside s a → Committed → Type 0
CommitsAside worker l jobs jobs' v w was is a s x committed.Applied = AppliesAside worker l jobs jobs' v w was is a s x
CommitsAside worker l jobs jobs' v w was is a s x (committed.Begun env) = HasChosen s (λ c. BeginsThere s.script s.ready.levels v c env w was is)
CommitsAside worker l jobs jobs' v w was is a s x committed.Refused = (w ≡ v) × (is ≡ true → was ≡ true)

-- what is aside then
abbrev pub LeavesAside : Aside → Aside → Committed → Type 0
LeavesAside old new committed.Applied = new.chosen.job ≡ None
LeavesAside old new (committed.Begun env) = new ≡ old
LeavesAside old new committed.Refused = new ≡ old
