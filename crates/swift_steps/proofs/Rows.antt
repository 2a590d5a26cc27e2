-- The fields of executors, when those of one are taken and others are put there.
use Rattle.swift_steps.proofs.Prelude.{◌≡◌, ◌≢◌, ◌<◌, ℕ, List, length, map, set, sym, subst, ap, ◌∙◌, inl, inr, Some, if◌then◌else◌, ◌==◌, slice_get, option_map, cases_eq, length-set, slice_get-map}
use Rattle.swift_groups.proofs.Lists.{slice_get_set, slice_get_set_other}
use Rattle.swift_steps.proofs.Given.{equal, unequal}

set_here : {A : Type 0} (xs : List A) (k e : ℕ) (y z : A) → k < length xs → e ≡ k → slice_get (set (set xs k z) k y) e ≡ Some y
set_here xs k e y z lt same = ap (slice_get (set (set xs k z) k y)) same ∙ slice_get_set (set xs k z) k y (subst (λ (n : ℕ). k < n) (sym (length-set xs k z)) lt)

set_else : {A : Type 0} (xs : List A) (k e : ℕ) (y z : A) → e ≢ k → slice_get (set (set xs k z) k y) e ≡ slice_get xs e
set_else xs k e y z ne = slice_get_set_other (set xs k z) k e y ne ∙ slice_get_set_other xs k e z ne

pub rows_set : {A B : Type 0} (f : A → B) (xs ys : List A) (k : ℕ) (y z : A) → k < length xs → ys ≡ set (set xs k z) k y → (e : ℕ) → slice_get (map f ys) e ≡ (if e == k then Some (f y) else slice_get (map f xs) e)
rows_set f xs ys k y z lt is e = elim (cases_eq e k) [
  | inl same ↦
      slice_get-map f ys e ∙ ap (option_map f) (ap (λ (l : List _). slice_get l e) is ∙ set_here xs k e y z lt same)
      ∙ sym (ap (λ b. if b then Some (f y) else slice_get (map f xs) e) (equal e k same))
  | inr ne ↦
      slice_get-map f ys e ∙ ap (option_map f) (ap (λ (l : List _). slice_get l e) is ∙ set_else xs k e y z ne) ∙ sym (slice_get-map f xs e)
      ∙ sym (ap (λ b. if b then Some (f y) else slice_get (map f xs) e) (unequal e k ne))
]

pub rows_here : {A B : Type 0} (f : A → B) (xs : List A) (k : ℕ) (x : A) → slice_get xs k ≡ Some x → slice_get (map f xs) k ≡ Some (f x)
rows_here f xs k x at = slice_get-map f xs k ∙ ap (option_map f) at
