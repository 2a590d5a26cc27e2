-- Lists by number, and sums over them.
use Rattle.swift_course.proofs.Prelude.{◌≡◌, ◌≢◌, ◌⊎◌, ℕ, zero, suc, ◌+◌, ◌≤◌, ◌<◌, ◌==◌, Bool, true, false, List, [], ◌∷◌, ◌++◌, length, get_or, set, count_by, refl, sym, ap, inl, inr, arith, sum_by, All, Option, Some, None, IfSome, unwrap_or, nat_tests, sum_by-cons, sum_by-append, get_or-le-sum_by, some, some-injective, some-ne-none, get_elem?, is_for, one_if, Ticket}

module _ {X : Type 0} where
  pub at_set : (l : List X) (i j : ℕ) (a b : X) → get_elem? (set l i a) j ≡ some b → ((j ≡ i) × (a ≡ b)) ⊎ ((j ≢ i) × (get_elem? l j ≡ some b))
  at_set [] i j a b e = absurd (some-ne-none b (sym e))
  at_set (x ∷ xs) zero zero a b e = inl (refl, some-injective a b e)
  at_set (x ∷ xs) zero (suc j) a b e = inr ((λ h. omega arith), e)
  at_set (x ∷ xs) (suc i) zero a b e = inr ((λ h. omega arith), e)
  at_set (x ∷ xs) (suc i) (suc j) a b e = elim (at_set xs i j a b e) [
    | inl t ↦ inl (ap suc t.0, t.1)
    | inr t ↦ let n = t.0 in inr ((λ h. n (omega arith)), t.1)
  ]

  pub at_push : (l : List X) (a b : X) (j : ℕ) → get_elem? (l ++ a ∷ []) j ≡ some b → (get_elem? l j ≡ some b) ⊎ ((j ≡ length l) × (a ≡ b))
  at_push [] a b zero e = inr (refl, some-injective a b e)
  at_push [] a b (suc j) e = absurd (some-ne-none b (sym e))
  at_push (x ∷ xs) a b zero e = inl e
  at_push (x ∷ xs) a b (suc j) e = elim (at_push xs a b j e) [
    | inl t ↦ inl t
    | inr t ↦ inr (ap suc t.0, t.1)
  ]

  pub set_else : (l : List X) (i j : ℕ) (a : X) → j ≢ i → get_elem? (set l i a) j ≡ get_elem? l j
  set_else (x ∷ xs) zero zero a n = absurd (n refl)
  set_else (x ∷ xs) (suc i) (suc j) a n = set_else xs i j a (λ e. n (ap suc e))
  set_else _ _ _ a n = refl

  pub set_there : (l : List X) (i : ℕ) (a b : X) → get_elem? l i ≡ some b → get_elem? (set l i a) i ≡ some a
  set_there [] i a b e = absurd (some-ne-none b (sym e))
  set_there (x ∷ xs) zero a b e = refl
  set_there (x ∷ xs) (suc i) a b e = set_there xs i a b e

  pub set_again : (l : List X) (i : ℕ) (a : X) → get_elem? l i ≡ some a → set l i a ≡ l
  set_again [] i a e = refl
  set_again (x ∷ xs) zero a e = ap (λ y. y ∷ xs) (sym (some-injective x a e))
  set_again (x ∷ xs) (suc i) a e = ap (λ ys. x ∷ ys) (set_again xs i a e)

  -- one place of a list is changed
  pub total_set : (f : X → ℕ) (xs : List X) (i : ℕ) (v w : X) → get_elem? xs i ≡ some v → sum_by f (set xs i w) + f v ≡ sum_by f xs + f w
  total_set f [] i v w e = absurd (some-ne-none v (sym e))
  total_set f (x ∷ xs) zero v w e = let same : f x ≡ f v = ap f (some-injective x v e) in omega (arith, same, sum_by-cons f w xs, sum_by-cons f x xs)
  total_set f (x ∷ xs) (suc i) v w e = let r = total_set f xs i v w e in omega (arith, r, sum_by-cons f x (set xs i w), sum_by-cons f x xs)

  pub total_most : (f : X → ℕ) (xs : List X) (i : ℕ) (v : X) → get_elem? xs i ≡ some v → f v ≤ sum_by f xs
  total_most f [] i v e = absurd (some-ne-none v (sym e))
  total_most f (x ∷ xs) zero v e = let same : f x ≡ f v = ap f (some-injective x v e) in omega (arith, same, sum_by-cons f x xs)
  total_most f (x ∷ xs) (suc i) v e = let r = total_most f xs i v e in omega (arith, r, sum_by-cons f x xs)

  pub all_each : (P Q : X → Type 0) (xs : List X) → ((x : X) → P x → Q x) → All P xs → All Q xs
  all_each P Q xs f p = λ k d lt. f _ (p k d lt)

  pub all_both : (P Q R : X → Type 0) (xs : List X) → ((x : X) → P x → Q x → R x) → All P xs → All Q xs → All R xs
  all_both P Q R xs f p q = λ k d lt. f _ (p k d lt) (q k d lt)

  pub if_some : (o : Option X) (P Q : X → Type 0) → ((x : X) → P x → Q x) → IfSome o P → IfSome o Q
  if_some None P Q f is = tt
  if_some (Some x) P Q f is = f x is

  pub same_one : (x y : X) → Some x ≡ Some y → x ≡ y
  same_one x y is = ap (λ o. unwrap_or o x) is

pub equal : (a b : ℕ) → a ≡ b → (a == b) ≡ true
equal a b is = grind (arith, nat_tests)

pub unequal : (a b : ℕ) → a ≢ b → (a == b) ≡ false
unequal a b ne = grind (arith, nat_tests)

pub one : (a b : ℕ) → a ≡ b → one_if (a == b) ≡ 1
one a b is = ap one_if (equal a b is)

pub no_one : (a b : ℕ) → a ≢ b → one_if (a == b) ≡ 0
no_one a b ne = ap one_if (unequal a b ne)

pub at_most_one : (b : Bool) → one_if b ≤ 1
at_most_one true = omega arith
at_most_one false = omega arith

-- how many tickets are for a task

pub count_cons : (t : ℕ) (k : Ticket) (ks : List Ticket) → count_by (is_for t) (k ∷ ks) ≡ one_if (t == k.job.task) + count_by (is_for t) ks
count_cons t k ks = sum_by-cons (λ (x : Ticket). one_if (is_for t x)) k ks

pub count_append : (t : ℕ) (ks ls : List Ticket) → count_by (is_for t) (ks ++ ls) ≡ count_by (is_for t) ks + count_by (is_for t) ls
count_append t ks ls = sum_by-append (λ (x : Ticket). one_if (is_for t x)) ks ls

-- each ticket counts for its task
pub count_own : (ks : List Ticket) (i : ℕ) (d : Ticket) → i < length ks → 1 ≤ count_by (is_for (get_or ks i d).job.task) ks
count_own ks i d lt =
    let t = (get_or ks i d).job.task in
    omega (arith, get_or-le-sum_by (λ (x : Ticket). one_if (is_for t x)) ks i d lt, one t t refl)
