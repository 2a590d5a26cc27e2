-- The checkpoints of a run that has not begun.
use Rattle.swift_course.proofs.Prelude.{◌≡◌, ℕ, ◌+◌, ◌<◌, ◌≤◌, zero, suc, List, [], ◌∷◌, map, length, refl, sym, ap, ◌∙◌, arith, Option, Some, None, slice_get, unwrap_or, range_with_len, slice_get_within, ScriptView, executor_count, executor_start, CheckpointView, checkpoint_at, no_checkpoint, start_of, starts}
use Rattle.swift_course.proofs.Lists.{same_one}

from : {X : Type 0} (f : ℕ → X) (n a e : ℕ) → e < n → slice_get (map f (range_with_len a n)) e ≡ Some (f (a + e))
from f zero a e lt = absurd (omega arith)
from f (suc n) a zero lt = ap (λ k. Some (f k)) (omega arith)
from f (suc n) a (suc e) lt = from f n (a + 1) e (omega arith) ∙ ap (λ k. Some (f k)) (omega arith)

pub place_of : {X : Type 0} (f : ℕ → X) (n e : ℕ) → e < n → slice_get (map f (range_with_len 0 n)) e ≡ Some (f e)
place_of f n e lt = from f n 0 e lt ∙ ap (λ k. Some (f k)) (omega arith)

beyond : {X : Type 0} (xs : List X) (e : ℕ) → length xs ≤ e → slice_get xs e ≡ None
beyond [] e le = refl
beyond (x ∷ xs) zero le = absurd (omega arith)
beyond (x ∷ xs) (suc e) le = beyond xs e (omega arith)

pub many : {X : Type 0} (f : ℕ → X) (n a : ℕ) → length (map f (range_with_len a n)) ≡ n
many f zero a = refl
many f (suc n) a = ap suc (many f n (a + 1))

pub start_is : (script : ScriptView) (e : ℕ) → e < executor_count script → checkpoint_at (starts script) e ≡ start_of script e
start_is script e lt = ap (λ (o : Option CheckpointView). unwrap_or o no_checkpoint) (place_of (start_of script) (executor_count script) e lt)

pub start_fields : (script : ScriptView) (e : ℕ) → e < executor_count script → (checkpoint_at (starts script) e).fields ≡ executor_start script e
start_fields script e lt = ap (λ (c : CheckpointView). c.fields) (start_is script e lt)

pub none_at : (cps : List CheckpointView) (e : ℕ) → length cps ≤ e → checkpoint_at cps e ≡ no_checkpoint
none_at cps e le = ap (λ (o : Option CheckpointView). unwrap_or o no_checkpoint) (beyond cps e le)

pub many_starts : (script : ScriptView) → length (starts script) ≡ executor_count script
many_starts script = many (start_of script) (executor_count script) 0

-- a checkpoint of a run that has not begun
pub start_at : (script : ScriptView) (e : ℕ) (c : CheckpointView) → slice_get (starts script) e ≡ Some c → c ≡ start_of script e
start_at script e c is =
    let lt : e < executor_count script = (let w = slice_get_within (starts script) e c is in let n = many_starts script in omega (arith, w, n)) in
    same_one c (start_of script e) (sym is ∙ place_of (start_of script) (executor_count script) e lt)

-- has folded no turn
pub none_folded_at : (script : ScriptView) (e : ℕ) (c : CheckpointView) → slice_get (starts script) e ≡ Some c → c.folded ≡ []
none_folded_at script e c is = ap (λ (x : CheckpointView). x.folded) (start_at script e c is)
