-- Elements of lists by their places.
use Rattle.std.proofs.Common.{◌≡◌, ◌⊎◌, ℕ, zero, suc, ◌+◌, ◌<◌, Option, Some, List, [], ◌∷◌, ◌++◌, length, take, drop, get_or, slice_get, filter_map, sym, ap, ◌∙◌, inl, inr, refl, unwrap_or}
use Rattle.std.specs.List.{cons_option}
use Rattle.std.proofs.lemmas.Option.{none-some, same_Some, unwrap_or-slice_get}
use Rattle.std.proofs.lemmas.List.{get_or_default, take_more, take-append-drop, take_at}
use Rattle.std.proofs.lemmas.List.Elements.{filter_map-append}

suc_case : {X : Type 0} (xs : List X) (x y z : X) (k : ℕ) → (slice_get xs k ≡ Some z) ⊎ ((k ≡ length xs) × (z ≡ y)) → (slice_get (x ∷ xs) (suc k) ≡ Some z) ⊎ ((suc k ≡ length (x ∷ xs)) × (z ≡ y))
suc_case xs x y z k (inl is) = inl is
suc_case xs x y z k (inr both) = inr (ap suc both.0, both.1)

-- an element of a list with one more at its end is one of the list, or that
pub slice_get_push : {X : Type 0} (xs : List X) (y : X) (k : ℕ) (z : X) → slice_get (xs ++ y ∷ []) k ≡ Some z → (slice_get xs k ≡ Some z) ⊎ ((k ≡ length xs) × (z ≡ y))
slice_get_push [] y zero z is = inr (refl, sym (same_Some y z is))
slice_get_push [] y (suc k) z is = absurd (none-some z is)
slice_get_push (x ∷ xs) y zero z is = inl is
slice_get_push (x ∷ xs) y (suc k) z is = suc_case xs x y z k (slice_get_push xs y k z is)

-- what the elements up to one give, and that one
pub filter_map_more : {X Y : Type 0} (f : X → Option Y) (xs : List X) (i : ℕ) (d : X) → i < length xs → filter_map f (take (i + 1) xs) ≡ filter_map f (take i xs) ++ cons_option (f (get_or xs i d)) []
filter_map_more f xs i d within = ap (filter_map f) (take_more xs i d within) ∙ filter_map-append f (take i xs) (get_or xs i d ∷ [])

-- what the first elements give comes first of what all give
pub filter_map_first : {X Y : Type 0} (f : X → Option Y) (xs : List X) (i : ℕ) → take (length (filter_map f (take i xs))) (filter_map f xs) ≡ filter_map f (take i xs)
filter_map_first f xs i =
    let split : filter_map f xs ≡ filter_map f (take i xs) ++ filter_map f (drop i xs) = ap (filter_map f) (sym (take-append-drop i xs)) ∙ filter_map-append f (take i xs) (drop i xs) in
    ap (take (length (filter_map f (take i xs)))) split ∙ take_at (filter_map f (take i xs)) (filter_map f (drop i xs)) (length (filter_map f (take i xs))) refl

-- an element that was read, as an element or nothing
pub read_or : {X : Type 0} (xs : List (List X)) (i : ℕ) (x : List X) → i < length xs → x ≡ get_or xs i x → x ≡ unwrap_or (slice_get xs i) []
read_or xs i x within is = is ∙ get_or_default xs i x [] within ∙ sym (unwrap_or-slice_get xs i [])
