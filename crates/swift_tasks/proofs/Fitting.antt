-- What follows from a turn that fits.
use Rattle.swift_tasks.proofs.Prelude.{◌≡◌, ℕ, ◌<◌, List, [], ◌∷◌, refl, Bool, true, false, arith, Option, Some, None, ◌&&◌, nat_lt, AllByRecursion, false≢true, nat_tests, Env, ScriptView, method_count, InvocationView, EffectView, spawning, detaching, opening, adding, cancelling_task, cancelling_group, ExitView, calling, waiting, asking_next, closing, yielding, returning, failing, CanAdvance, Event, JobStage, Given, Begun, Applied, Waits, Asks, Closes, Counters, counters, can_run, can_use, fits_effect, fits_turn, counted, CanStart, fits_begun}
use Rattle.swift_script.specs.SameScripts.{same_scripts}

pub left : (a b : Bool) → (a && b) ≡ true → a ≡ true
left true b h = refl
left false b h = h

pub right : (a b : Bool) → (a && b) ≡ true → b ≡ true
right true b h = h
right false b h = absurd (false≢true h)

pub less : (a b : ℕ) → nat_lt a b ≡ true → a < b
less a b h = grind (arith, nat_tests)

-- what can be run is a method of the script
runs : (script : ScriptView) (i : InvocationView) → can_run script i ≡ true → i.method < method_count script
runs script i h = less i.method (method_count script) (left (nat_lt i.method (method_count script)) _ h)

starts_one : (script : ScriptView) (t : ℕ) (log : List Event) (c : Counters) (e : EffectView) → fits_effect script t log c e ≡ true → CanStart script e
starts_one script t log c (spawning i p bindings) h = runs script i (right (nat_lt 0 c.room) (can_run script i) h)
starts_one script t log c (detaching i p) h = runs script i (right (nat_lt 0 c.room) (can_run script i) h)
starts_one script t log c (adding g unless i p bindings) h = runs script i (right (can_use t log c g) (can_run script i) (right (nat_lt 0 c.room) (can_use t log c g && can_run script i) h))
starts_one script t log c opening h = tt
starts_one script t log c (cancelling_task name) h = tt
starts_one script t log c (cancelling_group g) h = tt

-- each task that is made can be started
pub starts : (script : ScriptView) (t : ℕ) (log : List Event) (c : Counters) (es : List EffectView) (exit : ExitView) → fits_turn script t log c es exit ≡ true → AllByRecursion (CanStart script) es
starts script t log c [] exit h = tt
starts script t log c (e ∷ es) exit h = (
  starts_one script t log c e (left (fits_effect script t log c e) (fits_turn script t log (counted c e) es exit) h),
  starts script t log (counted c e) es exit (right (fits_effect script t log c e) (fits_turn script t log (counted c e) es exit) h),
)

-- the exit can be followed
pub advances : (script : ScriptView) (t : ℕ) (log : List Event) (c : Counters) (es : List EffectView) (exit : ExitView) → fits_turn script t log c es exit ≡ true → CanAdvance script exit
advances script t log c (e ∷ es) exit h = advances script t log (counted c e) es exit (right (fits_effect script t log c e) (fits_turn script t log (counted c e) es exit) h)
advances script t log c [] (calling i) h = runs script i h
advances script t log c [] (waiting name) h = tt
advances script t log c [] (asking_next g) h = tt
advances script t log c [] (closing g f) h = tt
advances script t log c [] yielding h = tt
advances script t log c [] (returning v) h = tt
advances script t log c [] (failing f) h = tt

-- the turn has begun, it fits, and the scripts are equal
pub record FitsTurn (script : ScriptView) (log : List Event) (t : ℕ) (other : ScriptView) (es : List EffectView) (exit : ExitView) (stage : Option JobStage) : Type 0 where
  pub env : Env
  pub begun : stage ≡ Some (Begun env)
  pub fits : fits_turn script t log (counters t log env.room) es exit ≡ true
  pub same : same_scripts script other ≡ true

pub begun_fits : (script : ScriptView) (log : List Event) (t : ℕ) (other : ScriptView) (es : List EffectView) (exit : ExitView) (stage : Option JobStage) → fits_begun script log t other es exit stage ≡ true → FitsTurn script log t other es exit stage
begun_fits script log t other es exit None h = absurd (false≢true h)
begun_fits script log t other es exit (Some Given) h = absurd (false≢true h)
begun_fits script log t other es exit (Some Applied) h = absurd (false≢true h)
begun_fits script log t other es exit (Some (Waits u)) h = absurd (false≢true h)
begun_fits script log t other es exit (Some (Asks g)) h = absurd (false≢true h)
begun_fits script log t other es exit (Some (Closes g)) h = absurd (false≢true h)
begun_fits script log t other es exit (Some (Begun env)) h = record {
  env = env;
  begun = refl;
  fits = left (fits_turn script t log (counters t log env.room) es exit) (same_scripts script other) h;
  same = right (fits_turn script t log (counters t log env.room) es exit) (same_scripts script other) h;
}
