-- Which lists of tasks an event makes longer.
use Rattle.std.specs.Prelude.{Option, Some, None}
use Rattle.swift_types.specs.declared.id.TaskId.{TaskId}
use Rattle.swift_events.specs.declared.event.Event.{Event}
use Rattle.swift_events.specs.declared.event.Event.TheVariants.{Free, Wait}

-- the maker and the task that was spawned or detached
abbrev pub own_pair : Event → Option (TaskId × TaskId)
own_pair (Free made by p detached) = Some (by, made)
own_pair _ = None

-- the awaited task and the waiter
abbrev pub waiter_pair : Event → Option (TaskId × TaskId)
waiter_pair (Wait waiter awaited) = Some (awaited, waiter)
waiter_pair _ = None
