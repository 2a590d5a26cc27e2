use Rattle.std.proofs.Common.{ap, inl, inr}
use Rattle.swift_events.specs.Relations.{parent_by}
use Rattle.swift_events.proofs.Cancels.{cancelled_no_child}
use Rattle.swift_events.proofs.laws.free_tasks_are_not_cancelled_with_their_maker.Goals as goal

pub returns : goal.returns
returns c = λ log t by made. cancelled_no_child t log (elim made [ inl spawned ↦ ap parent_by spawned | inr detached ↦ ap parent_by detached ])
