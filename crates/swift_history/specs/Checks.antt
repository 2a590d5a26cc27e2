-- Which turns may begin and be applied (our own).
use Rattle.std.specs.Prelude.{ℕ, ◌+◌, ◌-◌, ◌^◌, Bool, true, false, not, ◌==◌, ◌&&◌, nat_lt, is_some, if◌then◌else◌, Option, Some, None, List, [], ◌∷◌, length}
use Rattle.std.specs.Ordering.{int_eq}
use Rattle.swift_types.specs.declared.outcome.Fault.{Fault}
use Rattle.swift_types.specs.declared.outcome.Fault.TheVariants as fault
use Rattle.swift_types.specs.declared.outcome.Resume.{Resume}
use Rattle.swift_types.specs.declared.outcome.Resume.TheVariants as resume
use Rattle.swift_script.specs.Scripts.{ScriptView, root_count, method_count, method_actor, method_params}
use Rattle.swift_interpreter.specs.declared.effect.TaskName.{TaskName}
use Rattle.swift_interpreter.specs.declared.effect.TaskName.TheVariants.{Root, Own}
use Rattle.swift_interpreter.specs.Turn.{InvocationView, EffectView, spawning, detaching, opening, adding, cancelling_task, cancelling_group, ExitView, calling, waiting, asking_next, closing}
use Rattle.swift_events.specs.declared.event.Event.{Event}
use Rattle.swift_events.specs.declared.life.LastJob.{LastJob}
use Rattle.swift_events.specs.declared.life.JobStage.{JobStage}
use Rattle.swift_events.specs.declared.life.JobStage.TheVariants as stage
use Rattle.swift_events.specs.declared.life.Life.{Life}
use Rattle.swift_events.specs.Lives.{life_of}
use Rattle.swift_events.specs.Relations.{is_closed, own_tasks, opened_by}

-- whether two faults are one
abbrev pub same_fault : Fault → Fault → Bool
same_fault (fault.Thrown v) (fault.Thrown w) = int_eq v w
same_fault fault.Cancelled fault.Cancelled = true
same_fault fault.Invariant fault.Invariant = true
same_fault fault.Overflow fault.Overflow = true
same_fault fault.Steps fault.Steps = true
same_fault fault.Turns fault.Turns = true
same_fault fault.Depth fault.Depth = true
same_fault fault.Tasks fault.Tasks = true
same_fault fault.Empty fault.Empty = true
same_fault fault.Isolation fault.Isolation = true
same_fault _ _ = false

-- whether two resumes are one
abbrev pub same_resume : Resume → Resume → Bool
same_resume resume.Start resume.Start = true
same_resume resume.Go resume.Go = true
same_resume (resume.Value v) (resume.Value w) = int_eq v w
same_resume (resume.Fault f) (resume.Fault g) = same_fault f g
same_resume _ _ = false

-- this number and resume were given last
abbrev pub was_given : Option LastJob → ℕ → Resume → Bool
was_given None n resume = false
was_given (Some g) n resume = (g.number == n) && same_resume g.resume resume

-- a turn that was not applied yet
abbrev pub is_under_way : Option JobStage → Bool
is_under_way (Some stage.Given) = true
is_under_way (Some (stage.Begun env)) = true
is_under_way _ = false

-- a turn that has begun, and was not applied yet
abbrev pub is_begun : Option JobStage → Bool
is_begun (Some (stage.Begun env)) = true
is_begun _ = false

-- The task's last job is that of this turn, and the turn was not applied. Its number leaves room for a next one.
abbrev pub is_current : Life → ℕ → Resume → Bool
is_current l n resume = was_given l.given n resume && (nat_lt n (2 ^ 32 - 1) && is_under_way l.stage)

-- what a task has made by a place among the effects of its turn, and how many tasks the turn may still make
pub record Counters : Type 0 where
  pub own : ℕ
  pub opened : ℕ
  pub room : ℕ

-- what task `t` has made before its turn, by the log, and the room of the turn
abbrev pub counters : ℕ → List Event → ℕ → Counters
counters t log room = record { own = length (own_tasks t log); opened = opened_by t log; room = room }

-- a method of that actor, with as many arguments as it has parameters
abbrev pub can_run : ScriptView → InvocationView → Bool
can_run script i = nat_lt i.method (method_count script) && ((method_actor script i.method == i.actor) && (length i.args == method_params script i.method))

-- a root that was added, or a task that was made by then
abbrev pub can_name : ScriptView → List Event → Counters → TaskName → Bool
can_name script log c (Root r) = nat_lt r.0 (root_count script) && is_some (life_of r.0 log).origin
can_name script log c (Own k) = nat_lt k c.own

-- a group of the task that is open by then
abbrev pub can_use : ℕ → List Event → Counters → ℕ → Bool
can_use t log c g = nat_lt g c.opened && not (is_closed t g log)

-- whether an effect fits at its place
abbrev pub fits_effect : ScriptView → ℕ → List Event → Counters → EffectView → Bool
fits_effect script t log c (spawning i p bindings) = nat_lt 0 c.room && can_run script i
fits_effect script t log c (detaching i p) = nat_lt 0 c.room && can_run script i
fits_effect script t log c opening = nat_lt c.opened (2 ^ 32)
fits_effect script t log c (adding g unless i p bindings) = nat_lt 0 c.room && (can_use t log c g && can_run script i)
fits_effect script t log c (cancelling_task name) = can_name script log c name
fits_effect script t log c (cancelling_group g) = can_use t log c g

-- the counters after an effect; a child that is left out takes room too
abbrev pub counted : Counters → EffectView → Counters
counted c (spawning i p bindings) = record c { own = c.own + 1; room = c.room - 1 }
counted c (detaching i p) = record c { own = c.own + 1; room = c.room - 1 }
counted c opening = record c { opened = c.opened + 1 }
counted c (adding g unless i p bindings) = record c { room = c.room - 1 }
counted c _ = c

-- whether an exit fits after the effects: what it calls can run, and the task or the group that it waits for is there
abbrev pub fits_exit : ScriptView → ℕ → List Event → Counters → ExitView → Bool
fits_exit script t log c (calling i) = can_run script i
fits_exit script t log c (waiting name) = can_name script log c name
fits_exit script t log c (asking_next g) = can_use t log c g
fits_exit script t log c (closing g f) = can_use t log c g
fits_exit script t log c _ = true

-- whether a turn's effects, in order, and its exit fit the log in which it has begun
abbrev pub fits_turn : ScriptView → ℕ → List Event → Counters → List EffectView → ExitView → Bool
fits_turn script t log c [] exit = fits_exit script t log c exit
fits_turn script t log c (e ∷ es) exit = fits_effect script t log c e && fits_turn script t log (counted c e) es exit
