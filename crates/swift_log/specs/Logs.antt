-- What callers see of a log.
use Rattle.std.specs.Prelude.{ℕ, List}
use Rattle.swift_events.specs.declared.event.Event.{Event}

-- the events, the oldest first; and how many more find memory for sure
pub record LogView : Type 0 where
  pub events : List Event
  pub room : ℕ
