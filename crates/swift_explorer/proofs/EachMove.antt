-- Each block that may follow a history is what one of the listed steps does.
use Rattle.swift_explorer.proofs.Prelude.{◌≡◌, ◌<◌, ℕ, ◌+◌, true, List, [], ◌∷◌, ◌++◌, length, refl, sym, subst, ap, ◌∙◌, inl, inr, Option, Some, None, IfSome, is_some, Contains, arc_value, false≢true, ltb-true, Contains-append_left, Contains-push, Env, TaskId, ScriptView, actor_executor, method_actor, root_count, FrameView, Event, life_of, HasFrames, RecordView, is_begun, Block, Stands, added, begun, folded, ran, JobFacts, standing, starts, IsOrderly, frames_executor, SearchedHistory, Move, AreOf, given_at, given_view, seat_if, seat_of, AreThere, HasEach, HasEachMove, IsHistory, IsMissing, IsMoveOf, IsUnderWay, MayBegin}
use Rattle.swift_explorer.specs.declared.moves.Move.TheVariants as step
use Rattle.swift_explorer.proofs.Ended.{lt_or}
use Rattle.swift_explorer.proofs.First.{mapped}
use Rattle.swift_explorer.proofs.Orderly.{before_or_past, seat_is, seat_past}

-- one task more, whose step is listed
pub each_push : (of : TaskId → Move) (Is : SearchedHistory → ℕ → Type 0) (x : SearchedHistory) (n : ℕ) (ms ns : List Move) (t : TaskId) → t.0 ≡ n → ns ≡ ms ++ of t ∷ [] → HasEach of Is x n ms → HasEach of Is x (n + 1) ns
each_push of Is x n ms ns t at is each own u k lt seat may = elim (lt_or u.0 n lt) [
  | inl old ↦ subst (λ (l : List Move). Contains l (of u)) (sym is) (Contains-append_left ms (of t ∷ []) (of u) (each own u k old seat may))
  | inr new ↦
      let same : t ≡ u = ap (λ (v : ℕ). record { 0 = v }) (at ∙ sym new) in
      subst (λ (l : List Move). Contains l (of u)) (sym is) (subst (λ (v : TaskId). Contains (ms ++ of t ∷ []) (of v)) same (Contains-push ms (of t)))
]

-- one task more, whose step may not follow
pub each_skip : (of : TaskId → Move) (Is : SearchedHistory → ℕ → Type 0) (x : SearchedHistory) (n : ℕ) (ms : List Move)
    → (AreOf (arc_value x.steps.script) x.steps.tasks.items → (k : ℕ) → seat_of (arc_value x.steps.script) x.steps.tasks.items n ≡ Some k → Is x n → ⊥) → HasEach of Is x n ms → HasEach of Is x (n + 1) ms
each_skip of Is x n ms none each own u k lt seat may = elim (lt_or u.0 n lt) [
  | inl old ↦ each own u k old seat may
  | inr new ↦ absurd (none own k (subst (λ (v : ℕ). seat_of (arc_value x.steps.script) x.steps.tasks.items v ≡ Some k) new seat) (subst (Is x) new may))
]

-- what is listed stays so
pub kept_push : (ls ms ns : List Move) (m : Move) → ns ≡ ms ++ m ∷ [] → ((k : Move) → Contains ls k → Contains ms k) → (k : Move) → Contains ls k → Contains ns k
kept_push ls ms ns m is kept k has = subst (λ (l : List Move). Contains l k) (sym is) (Contains-append_left ms (m ∷ []) k (kept k has))

-- where a root is missing, not all are there
pub missing_not_there : (script : ScriptView) (log : List Event) (r : ℕ) → IsMissing script log r → AreThere (root_count script) log → ⊥
missing_not_there script log r missing there = false≢true (sym (ap is_some missing.missing) ∙ there r missing.below)

-- frames are of an executor
frames_run : (script : ScriptView) (fs : List FrameView) → HasFrames fs → (k : ℕ) × (frames_executor script fs ≡ Some k)
frames_run script [] has = absurd has
frames_run script (p ∷ callers) has = (actor_executor script (method_actor script p.method), refl)

module _ (x : SearchedHistory) (blocks : List Block) (h : IsHistory (arc_value x.steps.script) blocks x) where
  abbrev script : ScriptView
  script = arc_value x.steps.script

  -- a task that has a job is one of those that are kept, and runs at an executor
  seat_there : (t : ℕ) (j : JobFacts) → (standing script blocks).jobs t ≡ Some j → (k : ℕ) × (t < length x.steps.tasks.items) × (seat_of script x.steps.tasks.items t ≡ Some k)
  seat_there t j is =
      let one = mapped (given_view t) (given_at x.steps.tasks.items t) j (sym (h.followed.led.given t) ∙ is) in
      let runs = frames_run script one.0.body.task.frames (h.followed.scripts t one.0 one.1).runs in
      let seat : seat_of script x.steps.tasks.items t ≡ Some runs.0 = ap (seat_if script) one.1 ∙ runs.1 in
      let lt : t < length x.steps.tasks.items = elim (before_or_past t (length x.steps.tasks.items)) [
        | inl lt ↦ lt
        | inr le ↦ absurd (seat_past script x.steps.tasks.items t runs.0 le seat)
      ] in
      (runs.0, lt, seat)

  has_run : (ms : List Move) (e : ℕ) (r : RecordView) → HasEach step.Run IsUnderWay x (length x.steps.tasks.items) ms → Stands script (starts script) blocks (ran e r) → (m : Move) × Contains ms m × IsMoveOf m (ran e r)
  has_run ms e r each stands =
      let seat = seat_there r.task stands.job stands.stands.given in
      let way : IsUnderWay x r.task = ap (λ (l : List Event). is_begun (life_of r.task l).stage) h.followed.led.log_is ∙ ap is_begun stands.stands.has_begun in
      (step.Run (record { 0 = r.task }), each h.followed.scripts (record { 0 = r.task }) seat.0 seat.1 seat.2 way, refl)

  may_begin : (u n : ℕ) (env : Env) → IsOrderly script blocks (begun u n env) → MayBegin x u
  may_begin u n env orderly =
      let s = standing script blocks in
      let seat = λ (v : ℕ). seat_is script x.steps.tasks.items s.jobs v h.followed.led.given in
      record {
        there = subst (AreThere (root_count script)) (sym h.followed.led.log_is) orderly.0;
        free = λ own v same. ap (λ (l : List Event). is_begun (life_of v l).stage) h.followed.led.log_is ∙ orderly.1 v (sym (seat v) ∙ same ∙ seat u);
      }

  has_begin : (ms : List Move) (u n : ℕ) (env : Env) → HasEach step.Begin MayBegin x (length x.steps.tasks.items) ms → Stands script (starts script) blocks (begun u n env) → IsOrderly script blocks (begun u n env)
      → (m : Move) × Contains ms m × IsMoveOf m (begun u n env)
  has_begin ms u n env each stands orderly =
      let seat = seat_there u stands.0 stands.1 in
      (step.Begin (record { 0 = u }), each h.followed.scripts (record { 0 = u }) seat.0 seat.1 seat.2 (may_begin u n env orderly), refl)

-- where a root is missing: the turns that may run, and that a root is added
with_add : (x : SearchedHistory) (runs ms : List Move) (r : ℕ) → IsMissing (arc_value x.steps.script) x.steps.book.log r → HasEach step.Run IsUnderWay x (length x.steps.tasks.items) runs → ms ≡ runs ++ step.Add ∷ [] → HasEachMove x ms
with_add x runs ms r missing each is blocks (added q) h unfolded stands orderly = (step.Add, subst (λ (l : List Move). Contains l step.Add) (sym is) (Contains-push runs step.Add), tt)
with_add x runs ms r missing each is blocks (begun u n env) h unfolded stands orderly =
    absurd (missing_not_there (arc_value x.steps.script) x.steps.book.log r missing (may_begin x blocks h u n env orderly).there)
with_add x runs ms r missing each is blocks (ran e q) h unfolded stands orderly =
    let one = has_run x blocks h runs e q each stands in
    (one.0, subst (λ (l : List Move). Contains l one.0) (sym is) (Contains-append_left runs (step.Add ∷ []) one.0 one.1), one.2)
with_add x runs ms r missing each is blocks (folded e f) h unfolded stands orderly = absurd unfolded

pub each_with_add : (x : SearchedHistory) (runs ms : List Move) (o : Option ℕ) → is_some o ≡ true → IfSome o (IsMissing (arc_value x.steps.script) x.steps.book.log) → HasEach step.Run IsUnderWay x (length x.steps.tasks.items) runs
    → ms ≡ runs ++ step.Add ∷ [] → HasEachMove x ms
each_with_add x runs ms None some missing each is = absurd (false≢true some)
each_with_add x runs ms (Some r) some missing each is = with_add x runs ms r missing each is

-- where no root is missing: the turns that may run, and those that may begin
pub each_with_begins : (x : SearchedHistory) (runs ms : List Move) → AreThere (root_count (arc_value x.steps.script)) x.steps.book.log → HasEach step.Run IsUnderWay x (length x.steps.tasks.items) runs
    → ((m : Move) → Contains runs m → Contains ms m) → HasEach step.Begin MayBegin x (length x.steps.tasks.items) ms → HasEachMove x ms
each_with_begins x runs ms there each kept more blocks (added q) h unfolded stands orderly =
    let none = ap (λ (l : List Event). (life_of q l).origin) h.followed.led.log_is ∙ stands.1 in
    absurd (false≢true (sym (ap is_some none) ∙ there q (ltb-true q (root_count (arc_value x.steps.script)) stands.0)))
each_with_begins x runs ms there each kept more blocks (begun u n env) h unfolded stands orderly = has_begin x blocks h ms u n env more stands orderly
each_with_begins x runs ms there each kept more blocks (ran e q) h unfolded stands orderly = (let one = has_run x blocks h runs e q each stands in (one.0, kept one.0 one.1, one.2))
each_with_begins x runs ms there each kept more blocks (folded e f) h unfolded stands orderly = absurd unfolded
