-- The pool under its lock and its seats (our own). No public clause names these.
use Rattle.std.specs.Prelude.{◌≡◌, ◌⊎◌, true, None, []}
use Rattle.atomic_table.specs.Seated.{TableId}
use Rattle.swift_shared_book.specs.LockSeat.{LockSeatView}
use Rattle.swift_workers.specs.declared.known.PoolImage.{PoolImage}
use Rattle.swift_workers.specs.declared.known.PoolTold.{PoolTold}
use Rattle.swift_workers.specs.Pools.{PoolCall, PoolCrew, PoolFacts, after_call}
use Rattle.swift_workers.specs.PoolRule.{IsInCourse}

-- which lock it is, and the run whose pool it keeps
pub record SharedPoolView : Type 0 where
  pub id : TableId
  pub crew : PoolCrew

-- a seat: its lock, what it knows, and what it holds
abbrev pub SeatView : Type 0
SeatView = LockSeatView PoolImage PoolTold

-- The seat is of this pool, does not hold it, and knows its run.
abbrev pub IsPoolSeatOf : SharedPoolView → SeatView → Type 0
IsPoolSeatOf p s = (s.lock ≡ p.id) × (s.held ≡ None) × (s.known.view.crew ≡ p.crew)

-- the seat has made this call
abbrev pub HasCalled : PoolCall → SeatView → SeatView → Type 0
HasCalled c s t = (t.lock ≡ s.lock) × (t.held ≡ None) × (t.known.view ≡ after_call c s.known.view)

-- A worker has ended: it owes nothing, and it was told to stop, or has told why the run is given up.
abbrev pub HasStopped : SeatView → Type 0
HasStopped s = (s.known.view.owes ≡ 0) × ((s.known.view.over ≡ true) ⊎ (s.known.view.told ≡ true))

-- The run has come to a pool in which a seat knows this: no token is left, no worker is under way, and the run is not given up.
abbrev pub IsRunOut : PoolCrew → PoolTold → Type 0
IsRunOut crew v = (facts : PoolFacts) × IsInCourse v (record { crew = crew; facts = facts }) × (facts.tokens ≡ []) × (facts.under_way ≡ 0) × (facts.halt ≡ None)
