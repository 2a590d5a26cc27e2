-- A list of which the first elements are replaced, one after the other.
use Rattle.script_code.proofs.Prelude.{◌≡◌, ℕ, zero, suc, ◌<◌, ◌≤◌, List, [], ◌∷◌, length, map, get_or, refl, ap, arith, slice_set}

abbrev pub mapped : {A : Type 0} → (A → A) → ℕ → List A → List A
mapped f zero xs = xs
mapped f (suc i) [] = []
mapped f (suc i) (x ∷ xs) = f x ∷ mapped f i xs

pub mapped_next : {A : Type 0} (f : A → A) (i : ℕ) (xs : List A) (d : A) → i < length xs → slice_set (mapped f i xs) i (f (get_or (mapped f i xs) i d)) ≡ mapped f (suc i) xs
mapped_next f zero [] d lt = absurd (omega arith)
mapped_next f zero (x ∷ xs) d lt = refl
mapped_next f (suc i) [] d lt = absurd (omega arith)
mapped_next f (suc i) (x ∷ xs) d lt = ap (λ ys. f x ∷ ys) (mapped_next f i xs d (omega arith))

pub mapped_all : {A : Type 0} (f : A → A) (i : ℕ) (xs : List A) → length xs ≤ i → mapped f i xs ≡ map f xs
mapped_all f zero [] le = refl
mapped_all f zero (x ∷ xs) le = absurd (omega arith)
mapped_all f (suc i) [] le = refl
mapped_all f (suc i) (x ∷ xs) le = ap (λ ys. f x ∷ ys) (mapped_all f i xs (omega arith))
