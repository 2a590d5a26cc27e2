-- What the events of a task say of it (SE-0304).
use Rattle.std.specs.Prelude.{ℕ, Bool, true, false, ◌&&◌, is_some, is_none, Option, Some, None, List}
use Rattle.swift_types.specs.declared.outcome.Ending.{Ending}
use Rattle.swift_events.specs.declared.event.Event.{Event}
use Rattle.swift_events.specs.declared.event.Event.TheVariants.{Root, Begin, Apply, Free, Child, Wait, Next, Close, End, Give}
use Rattle.swift_events.specs.declared.life.Origin.{Origin}
use Rattle.swift_events.specs.declared.life.Origin.TheVariants as origin
use Rattle.swift_events.specs.declared.life.LastJob.{LastJob}
use Rattle.swift_events.specs.declared.life.JobStage.{JobStage}
use Rattle.swift_events.specs.declared.life.JobStage.TheVariants as stage
use Rattle.swift_events.specs.declared.life.Life.{Life}
use Rattle.swift_events.specs.Events.{events_of, last_of, later}

-- where the task that an event makes comes from, if it makes one
abbrev pub origin_in : Event → Option Origin
origin_in (Root t p) = Some origin.Root
origin_in (Free t by p true) = Some (origin.Detached by)
origin_in (Free t by p false) = Some (origin.Spawned by)
origin_in (Child t o g p) = Some (origin.Child o g)
origin_in _ = None

-- the job that an event gives its task: the number of its turn and what that begins with
abbrev pub given_in : Event → Option LastJob
given_in (Give t n resume) = Some (record { number = n; resume = resume })
given_in _ = None

-- how far the task's job is after an event of it, where the event says so
abbrev pub stage_in : Event → Option JobStage
stage_in (Give t n resume) = Some stage.Given
stage_in (Begin t n env) = Some (stage.Begun env)
stage_in (Apply t n) = Some stage.Applied
stage_in (Wait t awaited) = Some (stage.Waits awaited)
stage_in (Next o g) = Some (stage.Asks g)
stage_in (Close o g) = Some (stage.Closes g)
stage_in _ = None

-- how its task ended, if an event ends it
abbrev pub ending_in : Event → Option Ending
ending_in (End t ending) = Some ending
ending_in _ = None

-- what is known of a task by its events: of each kind, what the last one says
unfoldable pub life : List Event → Life
life es = record {
  origin = last_of origin_in es;
  given = last_of given_in es;
  stage = last_of stage_in es;
  ending = last_of ending_in es;
}

-- what a log says of task `t`, by the events of that task
abbrev pub life_of : ℕ → List Event → Life
life_of t log = life (events_of t log)

-- the life of a task that has no events
abbrev pub unborn : Life
unborn = record { origin = None; given = None; stage = None; ending = None }

-- what one more event of the task adds
abbrev pub lived : Life → Event → Life
lived l e = record {
  origin = later (origin_in e) l.origin;
  given = later (given_in e) l.given;
  stage = later (stage_in e) l.stage;
  ending = later (ending_in e) l.ending;
}

-- the task was made and has not ended
abbrev pub is_open : Life → Bool
is_open l = is_some l.origin && is_none l.ending

-- at this stage a task waits for a task, for a result of a group, or for the children of a group that it closes
abbrev pub waits_at : Option JobStage → Bool
waits_at (Some (stage.Waits awaited)) = true
waits_at (Some (stage.Asks g)) = true
waits_at (Some (stage.Closes g)) = true
waits_at _ = false

-- the task waits, by the stage of its last job
abbrev pub is_waiting : Life → Bool
is_waiting l = waits_at l.stage

-- the room that is reserved at this stage: that of the environment in which the turn has begun; else 0
abbrev pub room_in : Option JobStage → ℕ
room_in (Some (stage.Begun env)) = env.room
room_in _ = 0

-- the room that is reserved for the task's turn that has begun and was not applied; else 0
abbrev pub room_held : Life → ℕ
room_held l = room_in l.stage
