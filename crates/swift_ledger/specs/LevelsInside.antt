-- What is kept of the levels of tasks. No public clause names this.
use Rattle.std.specs.Prelude.{◌≡◌, ◌≤◌, false, List, vec_capacity}
use Rattle.swift_types.specs.declared.limits.TheConstants.{TASKS}
use Rattle.swift_events.specs.declared.event.Event.{Event}
use Rattle.swift_ledger.specs.declared.levels.Levels.{Levels}
use Rattle.swift_ledger.specs.Levels.{AreLevels, HaveStayed}

-- the list has the level of each task by the log, unless it is stale; the levels have stayed since the log had that many events; and there is
-- room for each task
pub record KeepsLevels (l : Levels) (log : List Event) : Type 0 where
  pub fresh : l.stale ≡ false → AreLevels log l.levels.items
  pub since : HaveStayed log l.changed
  pub room : TASKS ≤ vec_capacity l.levels
