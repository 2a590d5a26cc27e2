-- Each invariant of an executor's actors holds at the start.
use Rattle.swift_explorer.proofs.Prelude.{◌≡◌, ℕ, ℤ, suc, ◌<◌, ◌≤◌, ◌∙◌, Option, Some, None, List, [], ◌∷◌, true, false, subst, refl, ap, arith, inl, inr, IsTrue, Contains, if◌then◌else◌, slice_get, unwrap_or, slice_get_cases, Term, ActorView, plan_in, invariant_if, ExecutorView, invariants_among, members_if, CheckpointView, all_hold, checkpoint_at, no_checkpoint, start_of, starts, many_starts, StartsHold, ScriptView, executor_count, no_actor, actor_count, actor_executor, actor_invariant, executor_invariants, executor_start}
use Rattle.script_code.specs.Value.{holds}
use Rattle.swift_explorer.proofs.Ended.{starts_at}
use Rattle.swift_script.specs.Scripts.{parts_of}
use Rattle.swift_explorer.proofs.InvariantsOfActors.{of_actor}

-- each actor's invariant holds at the start
abbrev pub StartWell : ScriptView → Type 0
StartWell p = (actor : ℕ) → actor < actor_count p → IsTrue (holds (actor_invariant p actor) (executor_start p (actor_executor p actor)))

-- what holds of an actor's invariant holds of the term that it is
of_found : (p : ScriptView) (e : ℕ) (t : Term) (o : Option ActorView) → invariant_if o ≡ Some t → ((a : ActorView) → o ≡ Some a → a.executor ≡ e)
    → IsTrue (holds (unwrap_or o no_actor).invariant (executor_start p (unwrap_or o no_actor).executor)) → IsTrue (holds (Some t) (executor_start p e))
of_found p e t None is on starts = absurd cc
of_found p e t (Some a) is on starts = subst (λ (n : ℕ). IsTrue (holds (Some t) (executor_start p n))) (on a refl) (subst (λ (i : Option Term). IsTrue (holds i (executor_start p a.executor))) is starts)

pub start_each : (p : ScriptView) (e : ℕ) (t : Term) → StartWell p → Contains (executor_invariants p e) t → IsTrue (holds (Some t) (executor_start p e))
unfolding parts_of
start_each p e t starts has =
    let one = of_actor (plan_in p) p e t has in
    of_found p e t (slice_get (parts_of p).actors one.0) one.2 one.3 (starts one.0 one.1)

all_from : (ts : List Term) (rows : List (List ℤ)) → ((t : Term) → Contains ts t → IsTrue (holds (Some t) rows)) → all_hold ts rows ≡ true
all_from [] rows each = refl
all_from (t ∷ ts) rows each = ap (λ b. if b then all_hold ts rows else false) (each t (0, omega arith, refl)) ∙ all_from ts rows (λ u has. each u (suc has.0, omega (arith, has.1), has.2))

none_past : (p : ScriptView) (e : ℕ) → executor_count p ≤ e → executor_invariants p e ≡ []
unfolding parts_of
none_past p e past = elim (slice_get_cases (parts_of p).executors e).1 [
  | inl one ↦ (let within = one.1 in absurd (omega (arith, within, past)))
  | inr none ↦ ap (λ (o : Option ExecutorView). invariants_among (parts_of p).actors (members_if o)) none.1
]

-- so all invariants hold of the fields that executors start with
pub starts_hold : (p : ScriptView) → StartWell p → StartsHold p
starts_hold p well e = elim (slice_get_cases (starts p) e).1 [
  | inl one ↦
      let here : checkpoint_at (starts p) e ≡ start_of p e = ap (λ (o : Option CheckpointView). unwrap_or o no_checkpoint) one.2 ∙ starts_at p e one.0 one.2 in
      ap (λ (c : CheckpointView). all_hold (executor_invariants p e) c.fields) here ∙ all_from (executor_invariants p e) (executor_start p e) (λ t has. start_each p e t well has)
  | inr none ↦
      let past = none.0 in
      let many = many_starts p in
      ap (λ (ts : List Term). all_hold ts (checkpoint_at (starts p) e).fields) (none_past p e (omega (arith, past, many)))
]
