-- A definition that a reader must believe: what holds of the pool and of what all seats know, between any two atomic steps of whatever
-- threads (our own).
use Rattle.std.specs.Prelude.{◌≡◌, ◌≢◌, ℕ, ◌+◌, ◌≤◌, true, None, List, [], ◌∷◌, ◌++◌, length}
use mathlib.Core.Option.{some}
use lib.ListN.{get_elem?}
use Rattle.swift_workers.specs.Pools.{AreTurns, IsAtEnd, IsHistory, PoolCall, PoolCrew, PoolFacts, PoolView, PoolKnown, calls_of, first_pool, owed_after, owed_first, total}
use Rattle.swift_workers.specs.declared.known.PoolImage.{PoolImage}
use Rattle.swift_workers.specs.declared.known.PoolTold.{PoolTold}

-- What one seat knows is true: the run, its calls in the history, what it owes after these, and the end where it was told to stop or has told
-- a cause. Its calls are made turn by turn.
pub record IsKnown (i : PoolView) (history : List (ℕ × PoolCall)) (seat : ℕ) (v : PoolKnown) : Type 0 where
  pub crew : v.crew ≡ i.crew
  pub calls : v.calls ≡ calls_of history seat
  pub owed : v.owes ≡ owed_after (owed_first seat) v.calls
  pub turns : AreTurns (owed_first seat) v.calls
  pub few : v.owes ≤ v.parts
  pub over : v.over ≡ true → IsAtEnd i.facts
  pub told : v.told ≡ true → i.facts.halt ≢ None

-- There is one history of all calls, which leads from the first pool to this one. What each seat knows is true, and its calls are those that
-- the history has of it. So many workers are under way as seats owe what follows from a token.
pub record IsPoolCourse (i : PoolView) (seats : List PoolTold) : Type 0 where
  pub history : List (ℕ × PoolCall)
  pub leads : IsHistory i.crew history first_pool i.facts
  pub known : (seat : ℕ) (s : PoolTold) → get_elem? seats seat ≡ some s → IsKnown i history seat s.view
  pub others : (seat : ℕ) → length seats ≤ seat → calls_of history seat ≡ []
  pub owed : total (λ s. s.view.owes) seats ≡ i.facts.under_way
  pub parts : total (λ s. s.view.parts) seats ≡ 4294967295

abbrev pub HoldsOf : PoolImage → List PoolTold → Type 0
HoldsOf image seats = IsPoolCourse image.view seats

-- the pool is one that the run comes to in which some seat knows this
abbrev pub IsInCourse : PoolTold → PoolView → Type 0
IsInCourse v i = (seats : List PoolTold) × (seat : ℕ) × IsPoolCourse i seats × (get_elem? seats seat ≡ some v)

-- Where no worker is under way, no seat owes what follows from a token.
abbrev pub WhoRestsOwesNothing : Type 0
WhoRestsOwesNothing = (i : PoolView) (seats : List PoolTold) → IsPoolCourse i seats → i.facts.under_way ≡ 0 → (seat : ℕ) (s : PoolTold) → get_elem? seats seat ≡ some s → s.view.owes ≡ 0
