-- What the fields of a ledger keep. No public clause names these.
use Rattle.swift_ledger.specs.WellFormedInside.{IsWellFormed}
use Rattle.swift_ledger.specs.IndexesInside.{AreIndexes, HasSpare}
use Rattle.swift_ledger.specs.LevelsInside.{KeepsLevels}
use Rattle.swift_ledger.specs.declared.ledger.Ledger.TheInside.{Inside}

-- the log is well-formed, the indexes and the levels are what it gives, and the indexes have room for the events that the log has room for
pub record IsLedger (a : Inside) : Type 0 where
  pub form : IsWellFormed a.roots a.log.events
  pub indexes : AreIndexes a.indexes a.roots a.log.events
  pub indexes_room : HasSpare a.indexes a.log.room
  pub levels : KeepsLevels a.levels a.log.events
