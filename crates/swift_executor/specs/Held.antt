-- What holds of the state of an executor that a worker has taken, whatever step of a visit comes next (our own).
use Rattle.std.specs.Prelude.{◌≡◌, Option, Some, None}
use Rattle.std.specs.List.{AllByRecursion}
use Rattle.swift_course.specs.Views.{TurnOrder, at_rest, under_way}
use Rattle.swift_script.specs.Scripts.{ScriptView}
use Rattle.swift_shared_book.specs.Shared.{BookLockView, IsAsTaken, IsSeatOf, OpenSeatView, TicketedJobsView, seat_of}
use Rattle.swift_tasks.specs.Books.{BookView, IsJobOf}
use Rattle.swift_executor.specs.Exec.{IsOf, name_of, state_name}
use Rattle.swift_executor.specs.Inbox.{InboxView}
use Rattle.swift_executor.specs.Seats.{HaveSeen, IsSeatFor, KeepsOrder}
use Rattle.swift_executor.specs.State.{ChosenStageView, ChosenView, ExecInvariant, ExecStateView, picked, begun, played}
use Rattle.swift_executor.specs.Taken.{TakenView}

-- how turns have begun in order, where the turn of the chosen job is so far
abbrev pub order_at : ChosenStageView → TurnOrder
order_at picked = at_rest
order_at (begun worker env) = under_way
order_at (played worker env frame fields effects exit) = under_way

-- the same of the job that is chosen, if one is
abbrev pub order_of : Option ChosenView → TurnOrder
order_of None = at_rest
order_of (Some c) = order_at c.stage

-- A state and what lies beside it are of one executor: each job that the taker took is ready, chosen or journalled, the seat has the
-- executor's turns and the tickets of its jobs, and where its turns are known to have begun in order, the seat's account says so.
pub record GoesTogether (r : TakenView) : Type 0 where
  pub is_of : IsOf r.taker r.seat r.state
  pub order : KeepsOrder r.is_orderly (order_of r.state.chosen) r.seat

-- A state may lie in a word: no job is chosen, it keeps what an executor keeps, and what lies beside it is of the same executor.
pub record IsResting (r : TakenView) : Type 0 where
  pub none : r.state.chosen ≡ None
  pub keeps : ExecInvariant r.state
  pub together : GoesTogether r

-- the state is that of the executor which has this inbox
abbrev pub IsStateAt : InboxView → TakenView → Type 0
IsStateAt i r = name_of r ≡ state_name i.site i.id

-- the seat is one of this book, which is of the executor's script
abbrev pub IsOfBook : BookLockView → TakenView → Type 0
IsOfBook b r = (r.seat.lock ≡ b.id) × (b.script ≡ r.state.script)

-- the visit goes on with the state of the same executor, in which no job is chosen
abbrev pub GoesOn : TakenView → TakenView → Type 0
GoesOn old new = (name_of new ≡ name_of old) × (new.state.chosen ≡ None)

-- The book was taken from this lock by the seat of the executor that has this state, and is as it was then.
pub record HasOpened (b : BookLockView) (s : ExecStateView) (seat : OpenSeatView) (book : BookView) : Type 0 where
  pub untouched : IsAsTaken b seat book
  pub seat_is : IsSeatOf b (seat_of b seat.knows)
  pub script_is : b.script ≡ s.script
  pub known : IsSeatFor s (seat_of b seat.knows)
  pub front : HaveSeen book.log seat.knows

-- The list is of the same book, and where each job that stood there is of this script and has not ended, so is each that stands there now.
abbrev pub KeepsJobs : ScriptView → TicketedJobsView → TicketedJobsView → Type 0
KeepsJobs script old new = (new.book ≡ old.book) × (AllByRecursion (IsJobOf script) old.jobs → AllByRecursion (IsJobOf script) new.jobs)
