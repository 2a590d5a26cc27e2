-- What a worker leaves that has ended, or sleeps and is never rung again (our own).
use Rattle.std.specs.Prelude.{◌≡◌, ◌⊎◌, ℕ, ◌+◌, Option, Some, None, List, [], ◌∷◌, ◌++◌, take, drop}
use mathlib.Core.Option.{some}
use lib.ListN.{get_elem?}
use Rattle.swift_types.specs.declared.id.ExecId.{ExecId}
use Rattle.swift_workers.specs.declared.known.PoolTold.{PoolTold}
use Rattle.swift_workers.specs.declared.pool.WorkerNext.{WorkerNext}
use Rattle.swift_workers.specs.declared.pool.WorkerNext.TheVariants.{Visit, Pause, Rest, Stop}
use Rattle.swift_workers.specs.Pools.{PoolCall, PoolView, given_by, put_in, total}
use Rattle.swift_workers.specs.PoolRule.{IsPoolCourse}

-- what a worker was told to do last, where it was told this before
abbrev pub or_before : Option WorkerNext → Option WorkerNext → Option WorkerNext
or_before None before = before
or_before (Some next) before = Some next

-- what a worker was told to do last in these calls
abbrev pub last_next : Option WorkerNext → List PoolCall → Option WorkerNext
last_next before [] = before
last_next before (c ∷ cs) = last_next (or_before c.next before) cs

-- It was told to pause, to rest or to stop.
abbrev pub SleepsOrEnds : Option WorkerNext → Type 0
SleepsOrEnds None = ⊥
SleepsOrEnds (Some (Visit on)) = ⊥
SleepsOrEnds (Some Pause) = Unit {0}
SleepsOrEnds (Some Rest) = Unit {0}
SleepsOrEnds (Some Stop) = Unit {0}

-- the tokens that a worker holds after these calls, where it held these before: each turn that it ends is that of the oldest
abbrev pub held_after : List ExecId → List PoolCall → List ExecId
held_after held [] = held
held_after held (c ∷ cs) = held_after (drop c.ends held ++ given_by c.next) cs

-- the tokens whose turns these calls have ended, in order
abbrev pub ended_in : List ExecId → List PoolCall → List ExecId
ended_in held [] = []
ended_in held (c ∷ cs) = take c.ends held ++ ended_in (drop c.ends held ++ given_by c.next) cs

-- A worker that owes nothing, or was told last to pause, to rest or to stop, owes nothing and holds no token.
abbrev pub HoldsNothing : Type 0
HoldsNothing = (i : PoolView) (seats : List PoolTold) → IsPoolCourse i seats → (seat : ℕ) (s : PoolTold) → get_elem? seats seat ≡ some s
    → (s.view.owes ≡ 0) ⊎ SleepsOrEnds (last_next None s.view.calls) → (s.view.owes ≡ 0) × (held_after [] s.view.calls ≡ [])

-- Once each worker owes nothing, or was told last to pause, to rest or to stop, no token is lost and none is doubled: however tokens are
-- weighed, those that were put weigh what those weigh whose turns were ended, and those that lie in the pool.
abbrev pub WhoEndsLeavesNothing : Type 0
WhoEndsLeavesNothing = (i : PoolView) (seats : List PoolTold) (course : IsPoolCourse i seats)
    → ((seat : ℕ) (s : PoolTold) → get_elem? seats seat ≡ some s → (s.view.owes ≡ 0) ⊎ SleepsOrEnds (last_next None s.view.calls))
    → (weight : ExecId → ℕ) → total weight (put_in course.history) ≡ total (λ s. total weight (ended_in [] s.view.calls)) seats + total weight i.facts.tokens
