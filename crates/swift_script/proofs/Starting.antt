-- The invariants of an accepted script hold at the start.
use Rattle.swift_script.proofs.Prelude.{◌≡◌, ◌<◌, ℕ, zero, suc, Bool, true, false, Some, None, List, [], ◌∷◌, length, refl, arith, IsTrue, slice_get, unwrap_or, if◌then◌else◌, ScriptView, ActorView, CompiledView, WasAccepted, parts_of, no_actor, actor_count, actor_invariant, actor_executor, executor_start}
use Rattle.script_code.specs.Value.{holds}
use Rattle.script_compiler.specs.Starts.{starts_well, first_false_from}

-- the first actor starts well, and the others do
first_well : (c : CompiledView) (k : ℕ) (b : Bool) (others : List ActorView) → (if b then first_false_from c (suc k) others else Some k) ≡ None → (b ≡ true) × (first_false_from c (suc k) others ≡ None)
first_well c k true others e = (refl, e)
first_well c k false others e = absurd cc

-- where all actors from a place on start well, so does each
each_well : (c : CompiledView) (k : ℕ) (actors : List ActorView) (n : ℕ) → first_false_from c k actors ≡ None → n < length actors → starts_well c (unwrap_or (slice_get actors n) no_actor) ≡ true
each_well c k [] n e lt = absurd (omega arith)
each_well c k (a ∷ others) zero e lt = (first_well c k (starts_well c a) others e).0
each_well c k (a ∷ others) (suc n) e lt = each_well c (suc k) others n (first_well c k (starts_well c a) others e).1 (omega arith)

pub start_well : (s : ScriptView) (actor : ℕ) → WasAccepted s → actor < actor_count s → IsTrue (holds (actor_invariant s actor) (executor_start s (actor_executor s actor)))
start_well s actor a lt = each_well (parts_of s) 0 (parts_of s).actors actor a.1.starts lt
