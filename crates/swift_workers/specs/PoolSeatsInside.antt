-- What a call of a pool takes and may give back.
use Rattle.std.specs.Prelude.{◌≡◌, ◌≢◌, ◌+◌, ◌-◌, ◌≤◌, ℕ, Option, Some, None}
use Rattle.swift_script.specs.Scripts.{ScriptView}
use Rattle.swift_workers.specs.declared.known.PoolImage.{PoolImage}
use Rattle.swift_workers.specs.declared.pool.Pool.{Pool}
use Rattle.swift_workers.specs.declared.shelf.PoolShelf.{PoolShelf}
use Rattle.swift_workers.specs.PoolFactsInside.{facts_of}
use Rattle.swift_workers.specs.PoolRule.{IsInCourse}
use Rattle.swift_workers.specs.PoolCallsInside.{SeatView, SharedPoolView}
use Rattle.swift_workers.specs.Pools.{IsCall, PoolCall, PoolFacts, PoolKnown, takes}

-- A seat has taken this pool: it knows what it did, and the pool is one that the run comes to.
pub record HasTaken (p : SharedPoolView) (s t : SeatView) (shelf : PoolShelf) : Type 0 where
  pub lock : t.lock ≡ s.lock
  pub known : t.known ≡ s.known
  pub held : t.held ≡ Some (record { view = record { crew = p.crew; facts = facts_of shelf.pool.value } })
  pub script : shelf.script.value ≡ p.crew.script
  pub workers : shelf.workers.value ≡ p.crew.workers
  pub course : IsInCourse s.known (record { crew = p.crew; facts = facts_of shelf.pool.value })

-- A seat that knows v and has taken a pool of a run may give this one back, with which a call was made. The call ends a turn only where the
-- seat owes, and all that it owes where it asks what to do next; and the seat owes no more then than it has parts.
pub record MayGiveBack (v : PoolKnown) (held : Option PoolImage) (script : ScriptView) (workers : ℕ) (given : Pool) (c : PoolCall) : Type 0 where
  pub taken : PoolFacts
  pub was : held ≡ Some (record { view = record { crew = record { script = script; workers = workers }; facts = taken } })
  pub call : IsCall (record { script = script; workers = workers }) taken c (facts_of given)
  pub ends : c.ends ≤ v.owes
  pub asks : c.next ≢ None → c.ends ≡ v.owes
  pub few : v.owes - c.ends + takes c.next ≤ v.parts
