-- What stands in a list, by recursion.
use Rattle.script_compiler.proofs.Prelude.{◌≡◌, ℕ, zero, suc, ◌<◌, ◌⊎◌, inl, inr, List, [], ◌∷◌, ◌++◌, length, get_or, refl, sym, subst, arith, flat_map}
use Rattle.std.specs.Prelude.{Contains}

abbrev pub Has : {A : Type 0} → List A → A → Type 0
Has [] x = ⊥
Has (y ∷ ys) x = (y ≡ x) ⊎ Has ys x

pub has_left : {A : Type 0} (xs ys : List A) (x : A) → Has xs x → Has (xs ++ ys) x
has_left [] ys x h = absurd h
has_left (z ∷ xs) ys x (inl e) = inl e
has_left (z ∷ xs) ys x (inr h) = inr (has_left xs ys x h)

pub has_right : {A : Type 0} (xs ys : List A) (x : A) → Has ys x → Has (xs ++ ys) x
has_right [] ys x h = h
has_right (z ∷ xs) ys x h = inr (has_right xs ys x h)

pub has_cases : {A : Type 0} (xs ys : List A) (x : A) → Has (xs ++ ys) x → Has xs x ⊎ Has ys x
has_cases [] ys x h = inr h
has_cases (z ∷ xs) ys x (inl e) = inl (inl e)
has_cases (z ∷ xs) ys x (inr h) = elim (has_cases xs ys x h) [ inl g ↦ inl (inr g) | inr g ↦ inr g ]

pub has_from : {A : Type 0} (xs : List A) (x : A) (k : ℕ) → k < length xs → get_or xs k x ≡ x → Has xs x
has_from [] x k lt e = absurd (omega arith)
has_from (y ∷ xs) x zero lt e = inl e
has_from (y ∷ xs) x (suc k) lt e = inr (has_from xs x k (omega arith) e)

pub has_contained : {A : Type 0} (xs : List A) (x : A) → Contains xs x → Has xs x
has_contained xs x c = has_from xs x c.0 c.1 c.2

pub contains_had : {A : Type 0} (xs : List A) (x : A) → Has xs x → Contains xs x
contains_had [] x h = absurd h
contains_had (y ∷ xs) x (inl e) = (0, omega arith, e)
contains_had (y ∷ xs) x (inr h) = let c = contains_had xs x h in (suc c.0, (let lt = c.1 in omega arith), c.2)

-- what stands in joined lists stands in one of them
pub flat_from : {A B : Type 0} (f : A → List B) (xs : List A) (y : B) → Has (flat_map f xs) y → (x : A) × (Has xs x) × (Has (f x) y)
flat_from f [] y h = absurd h
flat_from f (x ∷ xs) y h = elim (has_cases (f x) (flat_map f xs) y h) [
  | inl g ↦ (x, inl refl, g)
  | inr g ↦ let r = flat_from f xs y g in (r.0, inr r.1, r.2)
]

pub flat_to : {A B : Type 0} (f : A → List B) (xs : List A) (x : A) (y : B) → Has xs x → Has (f x) y → Has (flat_map f xs) y
flat_to f [] x y h g = absurd h
flat_to f (z ∷ xs) x y (inl e) g = has_left (f z) (flat_map f xs) y (subst (λ w. Has (f w) y) (sym e) g)
flat_to f (z ∷ xs) x y (inr h) g = has_right (f z) (flat_map f xs) y (flat_to f xs x y h g)

pub flat_within : {A B : Type 0} (f : A → List B) (xs ys : List A) → ((x : A) → Has xs x → Has ys x) → (y : B) → Has (flat_map f xs) y → Has (flat_map f ys) y
flat_within f xs ys within y h = let r = flat_from f xs y h in flat_to f ys r.0 y (within r.0 r.1) r.2
