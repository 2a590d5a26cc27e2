-- The state of an executor with what lies beside it, in the executor's word or with the worker that has taken it.
use Rattle.std.specs.Prelude.{Bool}
use Rattle.swift_executor.specs.Inbox.{TakerView}
use Rattle.swift_executor.specs.State.{ExecStateView}
use Rattle.swift_shared_book.specs.Shared.{BookSeatView}

-- a state, with the taker of its jobs, the seat by which it takes the book, and whether its turns are known to have begun in order
pub record TakenView : Type 0 where
  pub state : ExecStateView
  pub taker : TakerView
  pub seat : BookSeatView
  pub is_orderly : Bool

-- a state with what lies beside it
abbrev pub taken_of : ExecStateView → TakerView → BookSeatView → Bool → TakenView
taken_of state taker seat is_orderly = record { state = state; taker = taker; seat = seat; is_orderly = is_orderly }
