-- One more element of one list.
use Rattle.swift_ledger.proofs.Prelude.{◌≡◌, ◌≢◌, ℕ, ◌+◌, List, [], ◌∷◌, ◌++◌, length, refl, sym, ◌∙◌, ap, arith, cond, inl, inr, subst, zero, suc, length-append, Option, Some, ◌==◌, slice_get, cases_eq, cond-true, cond-false, eq-eqb, ne_eqb, TaskId, AreListsKept, same_place, pushed}

at_end : {X : Type 0} (xs : List X) (y : X) → slice_get (xs ++ y ∷ []) (length xs) ≡ Some y
at_end [] y = refl
at_end (x ∷ xs) y = at_end xs y

elsewhere : {X : Type 0} (xs : List X) (y : X) (i : ℕ) → length xs ≢ i → slice_get (xs ++ y ∷ []) i ≡ slice_get xs i
elsewhere [] y zero h = absurd (h refl)
elsewhere [] y (suc i) h = refl
elsewhere (x ∷ xs) y zero h = refl
elsewhere (x ∷ xs) y (suc i) h = let ne : length xs ≢ i = omega (arith, h) in elsewhere xs y i ne

pub pushed_same : (lists : ℕ → List TaskId) (task x : TaskId) (t : ℕ) → task.0 ≡ t → pushed lists task x t ≡ lists t ++ x ∷ []
pushed_same lists task x t h = cond-true (task.0 == t) (lists t ++ x ∷ []) (lists t) (eq-eqb task.0 t h)

pub pushed_other : (lists : ℕ → List TaskId) (task x : TaskId) (t : ℕ) → task.0 ≢ t → pushed lists task x t ≡ lists t
pushed_other lists task x t h = cond-false (task.0 == t) (lists t ++ x ∷ []) (lists t) (ne_eqb task.0 t h)

pub kept_pushed : (count count' : ℕ → ℕ) (element element' : TaskId × ℕ → Option TaskId) (lists : ℕ → List TaskId) (task x : TaskId) (n : ℕ)
    → n ≡ count task.0
    → ((t : ℕ) → count' t ≡ cond (task.0 == t) (n + 1) (count t))
    → ((q : TaskId × ℕ) → element' q ≡ cond (same_place (task, n) q) (Some x) (element q))
    → AreListsKept count element lists → AreListsKept count' element' (pushed lists task x)
kept_pushed count count' element element' lists task x n is counts elements kept =
    let long : n ≡ length (lists task.0) = is ∙ kept.lengths task.0 in
    record {
      lengths = λ t. elim (cases_eq task.0 t) [
        | inl same ↦ (counts t ∙ cond-true (task.0 == t) (n + 1) (count t) (eq-eqb task.0 t same)
            ∙ (let more = length-append (lists t) (x ∷ []) in let there : n ≡ length (lists t) = subst (λ (k : ℕ). n ≡ length (lists k)) same long in
            let sum : n + 1 ≡ length (lists t ++ x ∷ []) = omega (arith, more, there) in sum)
            ∙ sym (ap length (pushed_same lists task x t same)))
        | inr other ↦ (counts t ∙ cond-false (task.0 == t) (n + 1) (count t) (ne_eqb task.0 t other)
            ∙ kept.lengths t ∙ sym (ap length (pushed_other lists task x t other)))
      ];
      elements = λ t i. elim (cases_eq task.0 t.0) [
        | inl same ↦ (let there : n ≡ length (lists t.0) = subst (λ (k : ℕ). n ≡ length (lists k)) same long in
            elim (cases_eq n i) [
              | inl here ↦ (elements (t, i) ∙ cond-true (same_place (task, n) (t, i)) (Some x) (element (t, i)) (rw (eq-eqb task.0 t.0 same, eq-eqb n i here) refl)
                  ∙ sym (ap (λ l. slice_get l i) (pushed_same lists task x t.0 same) ∙ ap (slice_get (lists t.0 ++ x ∷ [])) (sym here ∙ there) ∙ at_end (lists t.0) x))
              | inr away ↦ (elements (t, i) ∙ cond-false (same_place (task, n) (t, i)) (Some x) (element (t, i)) (rw (eq-eqb task.0 t.0 same, ne_eqb n i away) refl)
                  ∙ kept.elements t i
                  ∙ sym (ap (λ l. slice_get l i) (pushed_same lists task x t.0 same) ∙ elsewhere (lists t.0) x i (λ e. away (there ∙ e))))
            ])
        | inr other ↦ (elements (t, i) ∙ cond-false (same_place (task, n) (t, i)) (Some x) (element (t, i)) (rw (ne_eqb task.0 t.0 other) refl)
            ∙ kept.elements t i ∙ sym (ap (λ l. slice_get l i) (pushed_other lists task x t.0 other)))
      ];
    }

-- lists that are the same at each task
pub kept_same : (count : ℕ → ℕ) (element : TaskId × ℕ → Option TaskId) (lists lists' : ℕ → List TaskId) → ((t : ℕ) → lists t ≡ lists' t) → AreListsKept count element lists → AreListsKept count element lists'
kept_same count element lists lists' same kept = record {
  lengths = λ t. kept.lengths t ∙ ap length (same t);
  elements = λ t i. kept.elements t i ∙ ap (λ l. slice_get l i) (same t.0);
}

-- maps with the same answers keep the same lists
pub kept_again : (count count' : ℕ → ℕ) (element element' : TaskId × ℕ → Option TaskId) (lists : ℕ → List TaskId) → ((t : ℕ) → count' t ≡ count t) → ((p : TaskId × ℕ) → element' p ≡ element p) → AreListsKept count element lists → AreListsKept count' element' lists
kept_again count count' element element' lists same_count same_element kept = record {
  lengths = λ t. same_count t ∙ kept.lengths t;
  elements = λ t i. same_element (t, i) ∙ kept.elements t i;
}
