-- A list of counts that gets places.
use Rattle.swift_ledger.proofs.Prelude.{◌≡◌, ℕ, zero, suc, List, [], ◌∷◌, ◌++◌, refl, slice_index_or}

-- one more count of 0 changes no count
pub pushed_none : (xs : List ℕ) (t : ℕ) → slice_index_or (xs ++ 0 ∷ []) t 0 ≡ slice_index_or xs t 0
pushed_none [] zero = refl
pushed_none [] (suc t) = refl
pushed_none (x ∷ xs) zero = refl
pushed_none (x ∷ xs) (suc t) = pushed_none xs t
