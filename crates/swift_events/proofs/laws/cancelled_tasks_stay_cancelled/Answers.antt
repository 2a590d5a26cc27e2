use Rattle.swift_events.proofs.Cancels.{cancelled_stays_on}
use Rattle.swift_events.proofs.laws.cancelled_tasks_stay_cancelled.Goals as goal

pub returns : goal.returns
returns c = λ log more t all cancelled. cancelled_stays_on t log more all cancelled
