-- The executors of a script, and the desks of each worker.
use Rattle.std.specs.Prelude.{◌≡◌, ℕ, ◌-◌, List, [], Some, length, slice_get}
use Rattle.std.specs.List.{AllByRecursion}
use Rattle.swift_course.specs.Views.{BookKnown}
use Rattle.swift_executor.specs.Exec.{ExecView, DeskView, IsDeskOf}
use Rattle.swift_shared_book.specs.Shared.{BookLockView}
use Rattle.swift_workers.specs.declared.crew.Hand.{Hand}
use Rattle.swift_workers.specs.Leaves.{EachFrom}

-- the kth executor is that of the book's script with the number k, and runs the jobs that the book gives
abbrev pub AreAtSites : BookLockView → List ExecView → Type 0
AreAtSites b execs = (k : ℕ) (e : ExecView) → slice_get execs k ≡ Some e → e.inbox.site ≡ record { script = b.script; executor = k; book = Some b.id }

-- the kth desk is of the kth executor
pub record AreDesksOf (execs : List ExecView) (desks : List DeskView) : Type 0 where
  pub as_many : length desks ≡ length execs
  pub each : (k : ℕ) (e : ExecView) (d : DeskView) → slice_get execs k ≡ Some e → slice_get desks k ≡ Some d → IsDeskOf e d

-- the workers but the first, in order
pub record AreOthers (workers : ℕ) (hands : List Hand) : Type 0 where
  pub many : length hands ≡ workers - 1
  pub each : EachFrom (λ k hand. hand.worker ≡ k) 1 hands

-- A worker's desks are of these executors, and it has no jobs to send; those that it will have are given by this book.
pub record IsHandOf (b : BookLockView) (execs : List ExecView) (hand : Hand) : Type 0 where
  pub desks : AreDesksOf execs hand.desks.items
  pub book : hand.jobs.book ≡ b.id
  pub none : hand.jobs.jobs ≡ []

-- each of these workers is such a one
abbrev pub AreHandsOf : BookLockView → List ExecView → List Hand → Type 0
AreHandsOf b execs hands = AllByRecursion (IsHandOf b execs) hands

-- what the seat knows that opens accounts, once it has opened `many` of them and added no root
abbrev pub has_opened : ℕ → BookKnown → BookKnown
has_opened many v = record v { maker = Some (record { executors = many; roots = 0 }) }
