-- What callers see of a ledger, and which events it takes.
use Rattle.std.specs.Prelude.{◌≡◌, ℕ, ◌+◌, ◌-◌, ◌<◌, ◌≤◌, None, IsTrue, IsSome, List}
use Rattle.swift_types.specs.declared.limits.TheConstants.{TASKS}
use Rattle.swift_types.specs.declared.id.TaskId.{TaskId}
use Rattle.swift_events.specs.declared.event.Event.{Event}
use Rattle.swift_events.specs.declared.event.Event.TheVariants.{Root, Begin, Apply, Free, Open, Child, Skip, CancelTask, CancelGroup, Wait, Next, Close, End, Give}
use Rattle.swift_events.specs.Events.{tasks_of}
use Rattle.swift_events.specs.Lives.{life_of, room_held}
use Rattle.swift_events.specs.Relations.{opened_by, is_open_group}
use Rattle.swift_events.specs.Room.{reserved_of}

-- the log, for a script with `roots` roots; and how many more events find memory for sure
pub record LedgerView : Type 0 where
  pub roots : ℕ
  pub log : List Event
  pub spare : ℕ

-- the task was made: a root was added, or another task has made it
abbrev pub IsMade : List Event → TaskId → Type 0
IsMade log t = IsSome (life_of t.0 log).origin

-- one number more is left for a task
abbrev pub HasRoom : ℕ → List Event → Type 0
HasRoom roots log = tasks_of roots log + reserved_of roots log < TASKS

-- an event of tasks that are there, and of a group that is open
abbrev pub CanNote : ℕ → List Event → Event → Type 0
CanNote roots log (Root t p) = (t.0 < roots) × ((life_of t.0 log).origin ≡ None)
CanNote roots log (Begin t n env) = IsMade log t × (tasks_of roots log + (reserved_of roots log - room_held (life_of t.0 log)) + env.room ≤ TASKS)
CanNote roots log (Apply t n) = IsMade log t
CanNote roots log (Free t by p detached) = (t.0 ≡ tasks_of roots log) × IsMade log by × HasRoom roots log
CanNote roots log (Open o g) = IsMade log o × (g ≡ opened_by o.0 log)
CanNote roots log (Child t o g p) = (t.0 ≡ tasks_of roots log) × IsMade log o × IsTrue (is_open_group o.0 g log) × HasRoom roots log
CanNote roots log (Skip o g) = IsMade log o
CanNote roots log (CancelTask t) = IsMade log t
CanNote roots log (CancelGroup o g) = IsMade log o × IsTrue (is_open_group o.0 g log)
CanNote roots log (Wait t awaited) = IsMade log t × IsMade log awaited
CanNote roots log (Next o g) = IsMade log o × IsTrue (is_open_group o.0 g log)
CanNote roots log (Close o g) = IsMade log o × IsTrue (is_open_group o.0 g log)
CanNote roots log (End t ending) = IsMade log t × ((life_of t.0 log).ending ≡ None)
CanNote roots log (Give t n resume) = IsMade log t
