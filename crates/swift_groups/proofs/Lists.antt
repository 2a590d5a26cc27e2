-- Reads of a list by place, after a push and after a write.
use Rattle.swift_groups.proofs.Prelude.{◌≡◌, ℕ, zero, suc, ◌≤◌, ◌<◌, ◌⊎◌, List, None, Some, [], ◌∷◌, ◌++◌, length, set, drop, refl, ap, sym, inl, inr, arith, same_Some, slice_get}

pub slice_get_old : {X : Type 0} (xs ys : List X) (i : ℕ) (x : X) → slice_get xs i ≡ Some x → slice_get (xs ++ ys) i ≡ Some x
slice_get_old [] ys i x h = absurd (cc h)
slice_get_old (z ∷ zs) ys zero x h = h
slice_get_old (z ∷ zs) ys (suc i) x h = slice_get_old zs ys i x h

pub slice_get_new : {X : Type 0} (xs : List X) (y : X) → slice_get (xs ++ y ∷ []) (length xs) ≡ Some y
slice_get_new [] y = refl
slice_get_new (z ∷ zs) y = slice_get_new zs y

pub slice_get_push : {X : Type 0} (xs : List X) (y : X) (i : ℕ) (x : X) → slice_get (xs ++ y ∷ []) i ≡ Some x → (slice_get xs i ≡ Some x) ⊎ ((i ≡ length xs) × (y ≡ x))
slice_get_push [] y zero x h = inr (refl, same_Some y x h)
slice_get_push [] y (suc i) x h = absurd (cc h)
slice_get_push (z ∷ zs) y zero x h = inl h
slice_get_push (z ∷ zs) y (suc i) x h = elim (slice_get_push zs y i x h) [ inl a ↦ inl a | inr b ↦ inr (ap suc b.0, b.1) ]

pub slice_get_past : {X : Type 0} (xs : List X) (i : ℕ) → slice_get xs i ≡ None → length xs ≤ i
slice_get_past [] i h = omega arith
slice_get_past (z ∷ zs) zero h = absurd (cc h)
slice_get_past (z ∷ zs) (suc i) h = let t = slice_get_past zs i h in omega (arith, t)

pub slice_get_set : {X : Type 0} (xs : List X) (i : ℕ) (y : X) → i < length xs → slice_get (set xs i y) i ≡ Some y
slice_get_set [] i y h = absurd (omega (arith, h))
slice_get_set (z ∷ zs) zero y h = refl
slice_get_set (z ∷ zs) (suc i) y h = slice_get_set zs i y (omega (arith, h))

pub slice_get_set_other : {X : Type 0} (xs : List X) (i j : ℕ) (y : X) → (j ≡ i → ⊥) → slice_get (set xs i y) j ≡ slice_get xs j
slice_get_set_other [] i j y h = refl
slice_get_set_other (z ∷ zs) zero zero y h = absurd (h refl)
slice_get_set_other (z ∷ zs) zero (suc j) y h = refl
slice_get_set_other (z ∷ zs) (suc i) zero y h = refl
slice_get_set_other (z ∷ zs) (suc i) (suc j) y h = slice_get_set_other zs i j y (λ e. h (ap suc e))

pub drop_get : {X : Type 0} (xs : List X) (i : ℕ) (x : X) → slice_get xs i ≡ Some x → drop i xs ≡ x ∷ drop (suc i) xs
drop_get [] i x h = absurd (cc h)
drop_get (z ∷ zs) zero x h = ap (λ y. y ∷ zs) (same_Some z x h)
drop_get (z ∷ zs) (suc i) x h = drop_get zs i x h

pub set_same : {X : Type 0} (xs : List X) (i : ℕ) (x : X) → slice_get xs i ≡ Some x → set xs i x ≡ xs
set_same [] i x h = refl
set_same (z ∷ zs) zero x h = ap (λ y. y ∷ zs) (sym (same_Some z x h))
set_same (z ∷ zs) (suc i) x h = ap (λ s. z ∷ s) (set_same zs i x h)
