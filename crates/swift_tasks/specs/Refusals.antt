-- When the book refuses (our own).
use Rattle.std.specs.Prelude.{◌≡◌, ℕ, Bool, true, false, ◌&&◌, nat_lt, is_some, is_none, if◌then◌else◌, Option, Some, None, List}
use Rattle.swift_types.specs.declared.id.TaskId.{TaskId}
use Rattle.swift_types.specs.declared.outcome.Resume.{Resume}
use Rattle.swift_script.specs.Scripts.{ScriptView, root_count}
use Rattle.swift_script.specs.SameScripts.{same_scripts}
use Rattle.swift_interpreter.specs.Turn.{EffectView, ExitView}
use Rattle.swift_job.specs.Job.{JobView}
use Rattle.swift_turn.specs.Body.{BodyView}
use Rattle.swift_events.specs.declared.event.Event.{Event}
use Rattle.swift_events.specs.declared.life.JobStage.{JobStage}
use Rattle.swift_events.specs.declared.life.JobStage.TheVariants.{Begun}
use Rattle.swift_events.specs.declared.life.Life.{Life}
use Rattle.swift_events.specs.Lives.{life_of}
use Rattle.swift_history.specs.Checks.{is_current, counters, fits_turn}
use Rattle.swift_tasks.specs.declared.fault.BookFault.{BookFault}
use Rattle.swift_tasks.specs.declared.fault.BookFault.TheVariants.{Unknown, Completed, Memory, Refused}

-- a refusal is for the cause that there is, or else out of memory
abbrev pub IsRefusal : Option BookFault → BookFault → Type 0
IsRefusal (Some cause) fault = fault ≡ cause
IsRefusal None fault = fault ≡ Memory

-- a root is added once
abbrev pub refusal_of_root : ScriptView → List Event → ℕ → Option BookFault
refusal_of_root script log r = if nat_lt r (root_count script) && is_none (life_of r log).origin then None else Some Unknown

-- a task that was made and has not ended
abbrev pub refusal_unless_open : Life → Option BookFault
refusal_unless_open l = if is_none l.origin then Some Unknown else if is_some l.ending then Some Completed else None

-- a task is cancelled if it was made and has not ended
abbrev pub refusal_of_cancel : List Event → ℕ → Option BookFault
refusal_of_cancel log t = refusal_unless_open (life_of t log)

-- no cause before, and this holds
abbrev pub refused_unless : Option BookFault → Bool → Option BookFault
refused_unless (Some cause) holds = Some cause
refused_unless None true = None
refused_unless None false = Some Refused

-- a turn begins if it is the one of the task's last job, and was not applied
abbrev pub refusal_of_turn : List Event → ℕ → ℕ → Resume → Option BookFault
refusal_of_turn log t n resume = refused_unless (refusal_unless_open (life_of t log)) (is_current (life_of t log) n resume)

-- the turn of a job begins if it is the one of its task's last job, and was not applied
abbrev pub refusal_of_job : List Event → JobView BodyView → Option BookFault
refusal_of_job log job = refusal_of_turn log job.task.0 job.number job.resume

-- and its body is of the same script
abbrev pub refusal_of_begin : ScriptView → List Event → JobView BodyView → Option BookFault
refusal_of_begin script log job = refused_unless (refusal_of_job log job) (same_scripts script job.body.script)

-- in a turn that has begun, effects and exit that fit it, and a body of the same script
abbrev pub fits_begun : ScriptView → List Event → ℕ → ScriptView → List EffectView → ExitView → Option JobStage → Bool
fits_begun script log t other effects exit (Some (Begun env)) = fits_turn script t log (counters t log env.room) effects exit && same_scripts script other
fits_begun script log t other effects exit _ = false

-- a turn is applied if it might begin, has begun, and fits
abbrev pub refusal_of_apply : ScriptView → List Event → JobView BodyView → List EffectView → ExitView → Option BookFault
refusal_of_apply script log job effects exit =
    refused_unless (refusal_of_job log job) (fits_begun script log job.task.0 job.body.script effects exit (life_of job.task.0 log).stage)
