-- Steps that are in order.
use Rattle.swift_explorer.proofs.Prelude.{◌≡◌, ◌≢◌, ◌⊎◌, ◌<◌, ◌≤◌, true, false, ℕ, zero, suc, List, [], ◌∷◌, length, refl, sym, subst, ap, ◌∙◌, arith, Option, None, Some, option_map, arc_value, none-some, Env, ScriptView, root_count, Event, JobStage, Given, Begun, Applied, Waits, Asks, Closes, life_of, is_begun, Block, added, begun, JobFacts, standing, IsOrderly, job_executor, NextTurn, SearchedHistory, AreGiven, given_at, given_view, seat_if, seat_of, AreThere, IsHistory, MayBegin}

seat_by : (script : ScriptView) (u : ℕ) (o : Option NextTurn) → seat_if script o ≡ job_executor script (option_map (given_view u) o)
seat_by script u None = refl
seat_by script u (Some g) = refl

pub seat_is : (script : ScriptView) (tasks : List (Option NextTurn)) (jobs : ℕ → Option JobFacts) (u : ℕ) → AreGiven jobs tasks → seat_of script tasks u ≡ job_executor script (jobs u)
seat_is script tasks jobs u given = seat_by script u (given_at tasks u) ∙ ap (job_executor script) (sym (given u))

-- the first root that is missing may be added
pub add_orderly : (script : ScriptView) (blocks : List Block) (log : List Event) (r : ℕ) → log ≡ (standing script blocks).log → AreThere r log → IsOrderly script blocks (added r)
add_orderly script blocks log r is there = subst (AreThere r) is there

-- a turn that may begin is in order
pub begin_orderly : (blocks : List Block) (x : SearchedHistory) (t n : ℕ) (env : Env) → IsHistory (arc_value x.steps.script) blocks x → MayBegin x t → IsOrderly (arc_value x.steps.script) blocks (begun t n env)
begin_orderly blocks x t n env h may =
    let script = arc_value x.steps.script in
    let s = standing script blocks in
    let seat = λ (u : ℕ). seat_is script x.steps.tasks.items s.jobs u h.followed.led.given in (
      subst (AreThere (root_count script)) h.followed.led.log_is may.there,
      λ u same. ap (λ (l : List Event). is_begun (life_of u l).stage) (sym h.followed.led.log_is) ∙ may.free h.followed.scripts u (seat u ∙ same ∙ sym (seat t)),
    )

-- past the last task there is none

given_past : (tasks : List (Option NextTurn)) (u : ℕ) → length tasks ≤ u → given_at tasks u ≡ None
given_past [] u le = refl
given_past (x ∷ tasks) zero le = absurd (omega (arith, le))
given_past (x ∷ tasks) (suc u) le = given_past tasks u (omega (arith, le))

pub seat_past : (script : ScriptView) (tasks : List (Option NextTurn)) (u k : ℕ) → length tasks ≤ u → seat_of script tasks u ≡ Some k → ⊥
seat_past script tasks u k le is = none-some k (sym (ap (seat_if script) (given_past tasks u le)) ∙ is)

-- whether a turn is under way

pub has_begun : (o : Option JobStage) (env : Env) → o ≡ Some (Begun env) → is_begun o ≡ true
has_begun o env is = ap is_begun is

pub not_begun : (o : Option JobStage) → ((env : Env) → o ≢ Some (Begun env)) → is_begun o ≡ false
not_begun None never = refl
not_begun (Some (Begun env)) never = absurd (never env refl)
not_begun (Some Given) never = refl
not_begun (Some Applied) never = refl
not_begun (Some (Waits t)) never = refl
not_begun (Some (Asks g)) never = refl
not_begun (Some (Closes g)) never = refl

pub before_or_past : (u n : ℕ) → (u < n) ⊎ (n ≤ u)
before_or_past u n = grind arith
