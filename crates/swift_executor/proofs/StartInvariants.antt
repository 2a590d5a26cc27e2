-- Each invariant of an executor's actors holds at the start.
use Rattle.swift_executor.proofs.Prelude.{◌≡◌, ℕ, ◌<◌, Option, Some, None, subst, refl, IsTrue, Contains, slice_get, Term, holds, ActorView, plan_in, invariant_if, ScriptView, no_actor, actor_count, actor_executor, actor_invariant, executor_invariants, executor_start}
use Rattle.std.specs.Prelude.{unwrap_or}
use Rattle.swift_script.specs.Scripts.{parts_of}
use Rattle.swift_executor.proofs.InvariantsOfActors.{of_actor}

-- each actor's invariant holds at the start
abbrev pub StartWell : ScriptView → Type 0
StartWell p = (actor : ℕ) → actor < actor_count p → IsTrue (holds (actor_invariant p actor) (executor_start p (actor_executor p actor)))

-- what holds of an actor's invariant holds of the term that it is
of_found : (p : ScriptView) (e : ℕ) (t : Term) (o : Option ActorView) → invariant_if o ≡ Some t → ((a : ActorView) → o ≡ Some a → a.executor ≡ e)
    → IsTrue (holds (unwrap_or o no_actor).invariant (executor_start p (unwrap_or o no_actor).executor)) → IsTrue (holds (Some t) (executor_start p e))
of_found p e t None is on starts = absurd cc
of_found p e t (Some a) is on starts = subst (λ (n : ℕ). IsTrue (holds (Some t) (executor_start p n))) (on a refl) (subst (λ (i : Option Term). IsTrue (holds i (executor_start p a.executor))) is starts)

pub start_each : (p : ScriptView) (e : ℕ) (t : Term) → StartWell p → Contains (executor_invariants p e) t → IsTrue (holds (Some t) (executor_start p e))
unfolding parts_of
start_each p e t starts has =
    let one = of_actor (plan_in p) p e t has in
    of_found p e t (slice_get (parts_of p).actors one.0) one.2 one.3 (starts one.0 one.1)
