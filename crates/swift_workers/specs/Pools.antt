-- The pool of tokens as the workers of a run share it, as callers see it (our own).
use Rattle.std.specs.Prelude.{◌≡◌, ◌≢◌, ◌⊎◌, ◌==◌, ◌+◌, ◌-◌, ◌<◌, ◌≤◌, ℕ, Bool, true, false, cond, Option, Some, None, Result, Ok, Err, IsTrue, List, [], ◌∷◌, ◌++◌, All, length, take}
use Rattle.std.specs.List.{AllByRecursion}
use Rattle.swift_types.specs.declared.id.ExecId.{ExecId}
use Rattle.swift_script.specs.Scripts.{ScriptView, executor_kind}
use Rattle.swift_executor.specs.Exec.{may_run}
use Rattle.swift_workers.specs.declared.fault.Halt.{Halt}
use Rattle.swift_workers.specs.declared.fault.Halt.TheVariants.{Memory}
use Rattle.swift_workers.specs.declared.pool.WorkerNext.{WorkerNext}
use Rattle.swift_workers.specs.declared.pool.WorkerNext.TheVariants.{Visit, Pause, Rest, Stop}

-- a worker may run this executor, by its kind
abbrev pub MayVisit : ScriptView → ℕ → ℕ → ExecId → Type 0
MayVisit p workers worker on = (0 < workers) × IsTrue (may_run (executor_kind p on.0) workers worker)

-- the run whose pool it is: its script, and how many workers it has
pub record PoolCrew : Type 0 where
  pub script : ScriptView
  pub workers : ℕ

-- a worker of this run may run this executor
abbrev pub MayTake : PoolCrew → ℕ → ExecId → Type 0
MayTake crew = MayVisit crew.script crew.workers

-- the tokens that nobody has taken, the oldest first, how many workers are under way, and why the run is given up, if it is
pub record PoolFacts : Type 0 where
  pub tokens : List ExecId
  pub under_way : ℕ
  pub halt : Option Halt

-- A pool that was just made. The seat that it is made with is under way: it owes the tokens of the roots.
abbrev pub first_pool : PoolFacts
first_pool = record { tokens = []; under_way = 1; halt = None }

-- One call of a worker: whether it ends a turn (1, and else 0), the tokens that the turn has put behind the others, in order, the cause
-- that is told for giving the run up, and what the worker is told to do next, where it asks.
pub record PoolCall : Type 0 where
  pub worker : ℕ
  pub ends : ℕ
  pub put : List ExecId
  pub told : Option Halt
  pub next : Option WorkerNext

-- the first cause that is told stays
abbrev pub or_else : Option Halt → Option Halt → Option Halt
or_else (Some halt) told = Some halt
or_else None told = told

-- the pool once a call has put its tokens, ended its turn and told its cause
abbrev pub has_put : PoolFacts → PoolCall → PoolFacts
has_put p c = record { tokens = p.tokens ++ c.put; under_way = p.under_way - c.ends; halt = or_else p.halt c.told }

-- Of the tokens that this worker may run, it takes the oldest.
pub record IsOldest (may : ExecId → Type 0) (tokens : List ExecId) (on : ExecId) (left : List ExecId) : Type 0 where
  pub before : List ExecId
  pub after : List ExecId
  pub here : tokens ≡ before ++ on ∷ after
  pub may_run : may on
  pub none_before : All (λ t. may t → ⊥) before
  pub others : left ≡ before ++ after

-- the run is given up, or it is over: there is no token, and no worker is under way
abbrev pub IsAtEnd : PoolFacts → Type 0
IsAtEnd p = (p.halt ≢ None) ⊎ ((p.tokens ≡ []) × (p.under_way ≡ 0))

-- What a worker is told, and the pool that is left. It takes the oldest token that it may run. Where there is none, it stops at the end
-- of the run, and pauses before it. It may be told to rest where another worker may run each of the tokens. Where the run is given up,
-- it stops.
abbrev pub IsAnswer : PoolCrew → ℕ → PoolFacts → Option WorkerNext → PoolFacts → Type 0
IsAnswer crew worker p None q = q ≡ p
IsAnswer crew worker p (Some (Visit on)) q = (p.halt ≡ None) × (left : List ExecId) × IsOldest (MayTake crew worker) p.tokens on left × (q ≡ record { tokens = left; under_way = p.under_way + 1; halt = p.halt })
IsAnswer crew worker p (Some Pause) q = (p.halt ≡ None) × All (λ t. MayTake crew worker t → ⊥) p.tokens × ((p.tokens ≢ []) ⊎ (p.under_way ≢ 0)) × (q ≡ p)
IsAnswer crew worker p (Some Rest) q = (p.halt ≡ None) × (p.tokens ≢ []) × ((other : ℕ) × (other ≢ worker) × All (MayTake crew other) p.tokens) × (q ≡ p)
IsAnswer crew worker p (Some Stop) q = IsAtEnd p × (q ≡ p)

-- why a turn gives the run up: its own cause, or else that a token was refused memory
abbrev pub IsCauseOf : Result (Unit {0}) Halt → Bool → Option Halt → Type 0
IsCauseOf (Err halt) is_cut_short told = told ≡ Some halt
IsCauseOf (Ok u) true told = told ≡ Some Memory
IsCauseOf (Ok u) false told = told ≡ None

-- The call ends a turn that had these tokens to put, and was done or refused: it puts each of them, in order, or the run is given up.
abbrev pub IsEndOf : List ExecId → Result (Unit {0}) Halt → PoolCall → Type 0
IsEndOf tokens done c =
    (c.ends ≡ 1)
    × (((c.put ≡ tokens) × IsCauseOf done false c.told) ⊎ ((many : ℕ) × (many < length tokens) × (c.put ≡ take many tokens) × IsCauseOf done true c.told))

-- A call leads from one pool to another. Who ends no turn puts no token.
pub record IsCall (crew : PoolCrew) (p : PoolFacts) (c : PoolCall) (q : PoolFacts) : Type 0 where
  pub only : c.ends ≡ 0 → c.put ≡ []
  pub answer : IsAnswer crew c.worker (has_put p c) c.next q

-- These calls, each with the seat that made it, lead from one pool to another, in this order.
abbrev pub IsHistory : PoolCrew → List (ℕ × PoolCall) → PoolFacts → PoolFacts → Type 0
IsHistory crew [] p q = q ≡ p
IsHistory crew (c ∷ cs) p q = (mid : PoolFacts) × IsCall crew p c.1 mid × IsHistory crew cs mid q

-- the calls of one seat, in order
abbrev pub calls_of : List (ℕ × PoolCall) → ℕ → List PoolCall
calls_of [] seat = []
calls_of (c ∷ cs) seat = cond (seat == c.0) (c.1 ∷ calls_of cs seat) (calls_of cs seat)

-- 1 where a worker was told to visit an executor, whose token it has taken, and else 0
abbrev pub takes : Option WorkerNext → ℕ
takes None = 0
takes (Some (Visit on)) = 1
takes (Some Pause) = 0
takes (Some Rest) = 0
takes (Some Stop) = 0

-- what a seat owes once it has made these calls, where it owed this before
abbrev pub owed_after : ℕ → List PoolCall → ℕ
owed_after owes [] = owes
owed_after owes (c ∷ cs) = owed_after (owes - c.ends + takes c.next) cs

-- A seat that owes this makes these calls turn by turn: it ends no turn but one that it owes, and who asks what to do next ends with that call
-- all that it owes.
abbrev pub AreTurns : ℕ → List PoolCall → Type 0
AreTurns owes [] = Unit {0}
AreTurns owes (c ∷ cs) = (c.ends ≤ owes) × (c.next ≢ None → c.ends ≡ owes) × AreTurns (owes - c.ends + takes c.next) cs

-- whether a worker has been told to stop, once it is told this
abbrev pub stops : Bool → Option WorkerNext → Bool
stops over None = over
stops over (Some (Visit on)) = over
stops over (Some Pause) = over
stops over (Some Rest) = over
stops over (Some Stop) = true

-- whether a worker has told a cause for giving the run up, once it tells this
abbrev pub tells : Bool → Option Halt → Bool
tells told None = told
tells told (Some halt) = true

-- What a seat knows: the run; how many seats may still be split from it, and be under way, itself included; whether it owes what follows
-- from a token that it took, 1 or 0; whether it was told to stop, and has told a cause for giving the run up; and its calls, in order.
pub record PoolKnown : Type 0 where
  pub crew : PoolCrew
  pub parts : ℕ
  pub owes : ℕ
  pub over : Bool
  pub told : Bool
  pub calls : List PoolCall

-- what a seat knows after a call
abbrev pub after_call : PoolCall → PoolKnown → PoolKnown
after_call c v = record { crew = v.crew; parts = v.parts; owes = v.owes - c.ends + takes c.next; over = stops v.over c.next; told = tells v.told c.told; calls = v.calls ++ c ∷ [] }

-- What a seat owes before its first call. The one that a pool is made with owes the tokens of the roots.
abbrev pub owed_first : ℕ → ℕ
owed_first seat = cond (seat == 0) 1 0

-- what the seat knows that a pool is made with
abbrev pub first_known : PoolCrew → PoolKnown
first_known crew = record { crew = crew; parts = 4294967295; owes = 1; over = false; told = false; calls = [] }

-- what is left of it, and what a seat for one more worker knows
abbrev pub split_left : PoolKnown → PoolKnown
split_left v = record v { parts = v.parts - 1 }

abbrev pub split_new : PoolKnown → PoolKnown
split_new v = record { crew = v.crew; parts = 1; owes = 0; over = false; told = false; calls = [] }

-- what the lock of a pool keeps, as its rule sees it
pub record PoolView : Type 0 where
  pub crew : PoolCrew
  pub facts : PoolFacts

-- the tokens that these calls have put, in order
abbrev pub put_in : List (ℕ × PoolCall) → List ExecId
put_in [] = []
put_in (c ∷ cs) = c.1.put ++ put_in cs

-- the token that a worker was given
abbrev pub given_by : Option WorkerNext → List ExecId
given_by None = []
given_by (Some (Visit on)) = on ∷ []
given_by (Some Pause) = []
given_by (Some Rest) = []
given_by (Some Stop) = []

-- the tokens that were taken by these calls, in order
abbrev pub taken_in : List (ℕ × PoolCall) → List ExecId
taken_in [] = []
taken_in (c ∷ cs) = given_by c.1.next ++ taken_in cs

-- the first cause that these calls have told
abbrev pub told_in : List (ℕ × PoolCall) → Option Halt
told_in [] = None
told_in (c ∷ cs) = or_else c.1.told (told_in cs)

-- a number of each, added up
abbrev pub total : {A : Type 0} → (A → ℕ) → List A → ℕ
total f [] = 0
total f (x ∷ xs) = f x + total f xs

-- each call is of this worker
abbrev pub AreBy : ℕ → List (ℕ × PoolCall) → Type 0
AreBy worker [] = Unit {0}
AreBy worker (c ∷ cs) = (c.1.worker ≡ worker) × AreBy worker cs

-- No token is lost, and none is doubled: however tokens are weighed, those that were there and those that were put weigh what those that were
-- taken and those that are left do.
abbrev pub TokensAreKept : Type 0
TokensAreKept = (crew : PoolCrew) (history : List (ℕ × PoolCall)) (p q : PoolFacts) → IsHistory crew history p q
    → (weight : ExecId → ℕ) → total weight (p.tokens ++ put_in history) ≡ total weight (taken_in history ++ q.tokens)

-- A worker alone that may run each executor whose token is put takes the tokens in the order in which they were put.
abbrev pub OneWorkerTakesInOrder : Type 0
OneWorkerTakesInOrder = (crew : PoolCrew) (history : List (ℕ × PoolCall)) (p q : PoolFacts) (worker : ℕ) → IsHistory crew history p q
    → AreBy worker history → AllByRecursion (MayTake crew worker) (p.tokens ++ put_in history) → p.tokens ++ put_in history ≡ taken_in history ++ q.tokens

-- The run is given up for the first cause that was told.
abbrev pub FirstCauseStays : Type 0
FirstCauseStays = (crew : PoolCrew) (history : List (ℕ × PoolCall)) (p q : PoolFacts) → IsHistory crew history p q → q.halt ≡ or_else p.halt (told_in history)
