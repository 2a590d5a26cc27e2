-- A list from which one element was taken by putting the last one in its place.
use Rattle.swift_executor.proofs.Prelude.{◌≡◌, ℕ, zero, suc, ◌<◌, ◌≤◌, List, [], ◌∷◌, ◌++◌, length, set, get_or, subst, arith, IsPermutation, IsPermutation-cons, IsPermutation-middle, IsPermutation-refl, IsPermutation-to_front, IsPermutation-trans}

module _ {X : Type 0} where
  pub removed : (front : List X) (last x : X) (i : ℕ) → i < length front → get_or (front ++ last ∷ []) i x ≡ x → IsPermutation (front ++ last ∷ []) (x ∷ set front i last)
  removed [] last x i lt is = absurd (omega (arith, lt))
  removed (y ∷ ys) last x zero lt is = subst (λ (z : X). IsPermutation (y ∷ (ys ++ last ∷ [])) (z ∷ last ∷ ys)) is (IsPermutation-cons y (ys ++ last ∷ []) (last ∷ ys) (IsPermutation-to_front ys last))
  removed (y ∷ ys) last x (suc i) lt is =
      IsPermutation-trans (y ∷ (ys ++ last ∷ [])) (y ∷ x ∷ set ys i last) (x ∷ y ∷ set ys i last)
      (IsPermutation-cons y (ys ++ last ∷ []) (x ∷ set ys i last) (removed ys last x i (omega (arith, lt)) is))
      (IsPermutation-middle (y ∷ []) x (set ys i last))

  -- the last element itself
  pub removed_last : (front : List X) (last x : X) (i : ℕ) → length front ≤ i → i < length (front ++ last ∷ []) → get_or (front ++ last ∷ []) i x ≡ x → IsPermutation (front ++ last ∷ []) (x ∷ front)
  removed_last [] last x zero le lt is = subst (λ (z : X). IsPermutation (last ∷ []) (z ∷ [])) is (IsPermutation-refl (last ∷ []))
  removed_last [] last x (suc i) le lt is = absurd (omega (arith, lt))
  removed_last (y ∷ ys) last x zero le lt is = absurd (omega (arith, le))
  removed_last (y ∷ ys) last x (suc i) le lt is =
      IsPermutation-trans (y ∷ (ys ++ last ∷ [])) (y ∷ x ∷ ys) (x ∷ y ∷ ys)
      (IsPermutation-cons y (ys ++ last ∷ []) (x ∷ ys) (removed_last ys last x i (omega (arith, le)) (omega (arith, lt)) is))
      (IsPermutation-middle (y ∷ []) x ys)
