-- A job, as the log and the turns see it.
use Rattle.swift_job.specs.Job.{JobView}
use Rattle.swift_turn.specs.Body.{BodyView}
use Rattle.swift_history.specs.TurnEnds.{JobFacts}

-- what the log and the turns see of a job: its task, its number, what it begins with, and the task's frames and bindings
abbrev pub job_facts : JobView BodyView → JobFacts
job_facts j = record { task = j.task.0; number = j.number; resume = j.resume; frames = j.body.task }
