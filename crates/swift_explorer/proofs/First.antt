-- A history of which nothing was followed.
use Rattle.swift_explorer.proofs.Prelude.{Bool, false, ◌≡◌, ◌<◌, ◌≤◌, ℕ, zero, suc, ◌+◌, List, length, refl, sym, ap, ◌∙◌, ℤ, arith, Option, Some, None, slice_get, slice_index_or, replicate, option_map, range_with_len, length-map, length-replicate, none-some, slice_get-map, ScriptView, executor_count, executor_start, starts, start_fields, StartsFrom, AreFirst}

pub range_length : (a n : ℕ) → length (range_with_len a n) ≡ n
range_length a zero = refl
range_length a (suc n) = ap suc (range_length (a + 1) n)

next : (a e : ℕ) → a + suc e ≡ a + 1 + e
next a e = omega arith

-- a number that stands in a range, at its place
pub range_at : (a n e : ℕ) (x : ℕ) → slice_get (range_with_len a n) e ≡ Some x → (x ≡ a + e) × (e < n)
range_at a zero e x at = absurd (none-some x at)
range_at a (suc n) zero x at = (let is : a ≡ x = cc at in omega (arith, is), omega arith)
range_at a (suc n) (suc e) x at =
    let rest = range_at (a + 1) n e x at in
    let is = rest.0 in
    let lt = rest.1 in
    (omega (arith, is), omega (arith, lt))

-- of a list that is mapped, the one that stood there
pub mapped : {A B : Type 0} (f : A → B) (o : Option A) (y : B) → option_map f o ≡ Some y → (x : A) × (o ≡ Some x) × (f x ≡ y)
mapped f None y is = absurd (none-some y is)
mapped f (Some x) y is = (x, refl, cc is)

fields_first : (script : ScriptView) (fields : List (List (List ℤ))) (e : ℕ) (rows : List (List ℤ)) → AreFirst script fields → slice_get fields e ≡ Some rows → (rows ≡ executor_start script e) × (e < executor_count script)
fields_first script fields e rows first at =
    let one = mapped (executor_start script) (slice_get (range_with_len 0 (executor_count script)) e) rows
    (sym (slice_get-map (executor_start script) (range_with_len 0 (executor_count script)) e) ∙ ap (λ (fs : List (List (List ℤ))). slice_get fs e) (sym first) ∙ at) in
    let place = range_at 0 (executor_count script) e one.0 one.1 in
    let zero_is : 0 + e ≡ e = omega arith in
    let is : one.0 ≡ e = place.0 ∙ zero_is in
    (sym one.2 ∙ ap (executor_start script) is, place.1)

replicate_at : (n e : ℕ) → slice_index_or (replicate n false) e false ≡ false
replicate_at zero e = refl
replicate_at (suc n) zero = refl
replicate_at (suc n) (suc e) = replicate_at n e

-- each executor has the fields that it starts with
pub first_fields : (script : ScriptView) (fields : List (List (List ℤ))) → AreFirst script fields → StartsFrom (starts script) fields
first_fields script fields first e rows at =
    let is = fields_first script fields e rows first at in
    is.0 ∙ sym (start_fields script e is.1)

pub first_many : (script : ScriptView) (fields : List (List (List ℤ))) → AreFirst script fields → length fields ≡ executor_count script
first_many script fields first = ap length first ∙ length-map (range_with_len 0 (executor_count script)) (executor_start script) ∙ range_length 0 (executor_count script)

pub none_used : (used : List Bool) (n : ℕ) → used ≡ replicate n false → (e : ℕ) → slice_index_or used e false ≡ false
none_used used n is e = ap (λ (us : List Bool). slice_index_or us e false) is ∙ replicate_at n e

pub few_used : (script : ScriptView) (used : List Bool) (fields : List (List (List ℤ))) (n : ℕ) → used ≡ replicate n false → n ≡ length fields → AreFirst script fields → length used ≤ executor_count script
few_used script used fields n is many first =
    let count = first_many script fields first in
    let size : length used ≡ n = ap length is ∙ length-replicate n false in
    omega (arith, size, many, count)
