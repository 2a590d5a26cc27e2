-- The first elements of a list, and one more.
use Rattle.swift_certificate.proofs.Prelude.{◌≡◌, ℕ, ◌+◌, List, [], ◌∷◌, ◌++◌, ap, ◌∙◌, zero, suc, arith, Some, slice_get, take, none-some, same_one}

take_suc : {A : Type 0} (xs : List A) (n : ℕ) (x : A) → slice_get xs n ≡ Some x → take (suc n) xs ≡ take n xs ++ x ∷ []
take_suc [] n x is = absurd (none-some x is)
take_suc (y ∷ ys) zero x is = ap (λ z. z ∷ []) (same_one y x is)
take_suc (y ∷ ys) (suc n) x is = ap (λ zs. y ∷ zs) (take_suc ys n x is)

one_more : (n : ℕ) → n + 1 ≡ suc n
one_more n = omega arith

pub take_next : {A : Type 0} (xs : List A) (n : ℕ) (x : A) → slice_get xs n ≡ Some x → take (n + 1) xs ≡ take n xs ++ x ∷ []
take_next xs n x is = ap (λ k. take k xs) (one_more n) ∙ take_suc xs n x is
