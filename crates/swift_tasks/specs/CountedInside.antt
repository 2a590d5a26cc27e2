-- The counters of a turn, as the code keeps them. No public clause names these.
use Rattle.std.specs.Prelude.{◌≡◌, ℕ, ◌≤◌, false, List}
use Rattle.swift_events.specs.declared.event.Event.{Event}
use Rattle.swift_events.specs.Relations.{opened_by, is_closed}
use Rattle.swift_history.specs.Checks.{Counters}
use Rattle.swift_tasks.specs.declared.checks.EffectCounts.{EffectCounts}

abbrev pub counters_of : EffectCounts → Counters
counters_of c = record { own = c.own; opened = c.opened; room = c.room }

-- a group that was not opened is not closed
pub record UnopenedAreNotClosed (log : List Event) : Type 0 where
  pub at : (o g : ℕ) → opened_by o log ≤ g → is_closed o g log ≡ false
