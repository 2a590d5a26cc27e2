-- What the indexes of a log keep.
use Rattle.std.specs.Prelude.{◌≡◌, ℕ, ◌≤◌, List}
use Rattle.swift_events.specs.declared.event.Event.{Event}
use Rattle.swift_events.specs.Relations.{own_tasks, waiters_of, links_of}
use Rattle.swift_ledger.specs.LivesInside.{AreLives}
use Rattle.swift_ledger.specs.LivesInside as lives
use Rattle.swift_ledger.specs.FlagsInside.{AreFlags}
use Rattle.swift_ledger.specs.FlagsInside as flags
use Rattle.swift_ledger.specs.ListsInside.{AreLists}
use Rattle.swift_ledger.specs.ListsInside as lists
use Rattle.swift_ledger.specs.GroupIndexesInside.{AreGroupsOf}
use Rattle.swift_ledger.specs.declared.indexes.Indexes.{Indexes}

-- each index is what the log gives
pub record AreIndexes (a : Indexes) (roots : ℕ) (log : List Event) : Type 0 where
  pub lives : AreLives a.lives roots log
  pub flags : AreFlags a.flags roots log
  pub own : AreLists a.own (λ t. own_tasks t log)
  pub waiters : AreLists a.waiters (λ t. waiters_of t log)
  pub links : a.waits.events ≡ links_of log
  pub groups : AreGroupsOf a.groups log

-- `n` more events find memory
pub record HasSpare (a : Indexes) (n : ℕ) : Type 0 where
  pub lives : lives.HasSpare a.lives n
  pub flags : flags.HasSpare a.flags n
  pub own : lists.HasSpare a.own n
  pub waiters : lists.HasSpare a.waiters n
  pub waits : n ≤ a.waits.reserved
  pub groups : n ≤ a.groups.spare
