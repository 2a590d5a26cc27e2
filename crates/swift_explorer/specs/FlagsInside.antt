-- What a cancel names, and who is cancelled by that. No public clause names these.
use Rattle.std.specs.Prelude.{ℕ, suc, Bool, List}
use Rattle.swift_events.specs.declared.event.Event.{Event}
use Rattle.swift_events.specs.Relations.{cancelled_within, names_group, names_task}
use Rattle.swift_explorer.specs.declared.flags.Named.{Named}
use Rattle.swift_explorer.specs.declared.flags.Named.TheVariants.{Task, Group}

-- this event is a cancel that names it
abbrev pub names : Named → Event → Bool
names (Task t) = names_task t.0
names (Group o g) = names_group o.0 g

-- a task is cancelled, as far as it and so many owners above it show
abbrev pub cancelled_below : ℕ → ℕ → List Event → Bool
cancelled_below owners t log = cancelled_within (suc owners) t log
