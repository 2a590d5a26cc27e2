-- Where those hold that are tested, and the others hold, all do.
use Rattle.swift_undo.proofs.Prelude.{◌≡◌, ℕ, zero, suc, ◌+◌, ◌<◌, ℤ, Bool, true, false, if◌then◌else◌, Option, Some, None, List, [], ◌∷◌, ◌++◌, ◌==◌, ◌⊎◌, length, take, drop, get_or, refl, sym, ap, subst, ◌∙◌, inl, inr, arith, Contains, slice_get, cases_eq, cond-true, cond-false, eq-eqb, ne_eqb, drop_more, take_more, Contains-push_cases, Term, term_of, terms_of, holds, is_saved, all_hold, HoldsThere, OthersHold, ReadersHold}
use Rattle.std.proofs.Math.Seq.{drop-nil}
use Rattle.script_code.specs.declared.formula.Formula.{Formula}

by_case : (b : Bool) → (b ≡ true) ⊎ (b ≡ false)
by_case true = inl refl
by_case false = inr refl

-- past the last invariant none stands
pub none_there : (xs : List Formula) (place : ℕ) (fields : List (List ℤ)) → slice_get xs place ≡ None → HoldsThere (terms_of xs) place fields
none_there [] place fields is = tt
none_there (x ∷ xs) zero fields is = absurd (cc)
none_there (x ∷ xs) (suc place) fields is = none_there xs place fields is

-- one that holds does so in its place
pub one_there : (xs : List Formula) (place : ℕ) (x : Formula) (fields : List (List ℤ)) → slice_get xs place ≡ Some x → holds (Some (term_of x)) fields ≡ true → HoldsThere (terms_of xs) place fields
one_there [] place x fields is holds_it = tt
one_there (y ∷ ys) zero x fields is holds_it =
    let same : y ≡ x = cc in
    ap (λ (z : Formula). holds (Some (term_of z)) fields) same ∙ holds_it
one_there (y ∷ ys) (suc place) x fields is holds_it = one_there ys place x fields is holds_it

never : (b : Bool) → (if b then false else false) ≡ false
never true = refl
never false = refl

-- where one doesn't, not all do
pub one_false : (xs : List Formula) (place : ℕ) (x : Formula) (fields : List (List ℤ)) → slice_get xs place ≡ Some x → holds (Some (term_of x)) fields ≡ false → all_hold (terms_of xs) fields ≡ false
one_false [] place x fields is not = absurd (cc)
one_false (y ∷ ys) zero x fields is not =
    let same : y ≡ x = cc in
    cond-false (holds (Some (term_of y)) fields) (all_hold (terms_of ys) fields) false (ap (λ (z : Formula). holds (Some (term_of z)) fields) same ∙ not)
one_false (y ∷ ys) (suc place) x fields is not =
    ap (λ (b : Bool). if holds (Some (term_of y)) fields then b else false) (one_false ys place x fields is not) ∙ never (holds (Some (term_of y)) fields)

-- one place more in which an invariant holds
pub each_more : (places : List ℕ) (i x : ℕ) (invariants : List Term) (fields : List (List ℤ)) → i < length places → x ≡ get_or places i x
    → ((p : ℕ) → Contains (take i places) p → HoldsThere invariants p fields) → HoldsThere invariants x fields → (p : ℕ) → Contains (take (i + 1) places) p → HoldsThere invariants p fields
each_more places i x invariants fields lt is before here p has =
    let one : take (i + 1) places ≡ take i places ++ x ∷ [] = take_more places i x lt ∙ ap (λ (y : ℕ). take i places ++ y ∷ []) (sym is) in
    elim (Contains-push_cases (take i places) x p (subst (λ (ys : List ℕ). Contains ys p) one has)) [
      | inl old ↦ before p old
      | inr same ↦ subst (λ (k : ℕ). HoldsThere invariants k fields) same here
    ]

-- a row that is saved among these and one more
saved_more : (saved : List (ℕ × List ℤ)) (q : ℕ × List ℤ) (row : ℕ) → is_saved (saved ++ q ∷ []) row ≡ true → (is_saved saved row ≡ true) ⊎ (q.0 ≡ row)
saved_more [] q row is = elim (cases_eq q.0 row) [
  | inl same ↦ inr same
  | inr other ↦
      let no : true ≡ false = sym is ∙ cond-false (q.0 == row) true false (ne_eqb q.0 row other) in
      absurd (cc)
]
saved_more (p ∷ ps) q row is = elim (cases_eq p.0 row) [
  | inl same ↦ inl (cond-true (p.0 == row) true (is_saved ps row) (eq-eqb p.0 row same))
  | inr other ↦ elim (saved_more ps q row (sym (cond-false (p.0 == row) true (is_saved (ps ++ q ∷ []) row) (ne_eqb p.0 row other)) ∙ is)) [
    | inl old ↦ inl (cond-false (p.0 == row) true (is_saved ps row) (ne_eqb p.0 row other) ∙ old)
    | inr last ↦ inr last
  ]
]

-- one saved row more whose readers hold
pub readers_more : (invariants : List Term) (rows : List ℕ) (saved : List (ℕ × List ℤ)) (fields : List (List ℤ)) (i actor : ℕ) (places : List ℕ) → i < length saved → actor ≡ (get_or saved i (0, [])).0
    → ReadersHold invariants rows (take i saved) fields → ((p : ℕ) → p < length rows → get_or rows p 0 ≡ actor → Contains places p) → ((p : ℕ) → Contains places p → HoldsThere invariants p fields)
    → ReadersHold invariants rows (take (i + 1) saved) fields
readers_more invariants rows saved fields i actor places lt is before listed each p within has =
    elim (saved_more (take i saved) (get_or saved i (0, [])) (get_or rows p 0) (subst (λ (s : List (ℕ × List ℤ)). is_saved s (get_or rows p 0) ≡ true) (take_more saved i (0, []) lt) has)) [
      | inl old ↦ before p within old
      | inr same ↦ each p (listed p within (sym same ∙ sym is))
    ]

-- where the readers of what was saved hold, and the others do, all hold that have rows
pub all_read : (xs : List Formula) (rows : List ℕ) (saved : List (ℕ × List ℤ)) (fields : List (List ℤ)) → OthersHold (terms_of xs) rows saved fields → ReadersHold (terms_of xs) rows saved fields
    → all_hold (terms_of xs) fields ≡ all_hold (terms_of (drop (length rows) xs)) fields
all_read [] rows saved fields others readers = ap (λ (ys : List Formula). all_hold (terms_of ys) fields) (sym (drop-nil (length rows)))
all_read (x ∷ xs) [] saved fields others readers = refl
all_read (x ∷ xs) (row ∷ rows) saved fields others readers =
    let here : holds (Some (term_of x)) fields ≡ true = elim (by_case (is_saved saved row)) [
      | inl tested ↦ readers 0 (omega arith) tested
      | inr spared ↦ others.0 spared
    ] in
    cond-true (holds (Some (term_of x)) fields) (all_hold (terms_of xs) fields) false here
    ∙ all_read xs rows saved fields others.1 (λ p within is. readers (suc p) (omega (arith, within)) is)

-- whether all that are left hold, by the first of them
pub all_from : (xs : List Formula) (i : ℕ) (x : Formula) (fields : List (List ℤ)) → i < length xs → x ≡ get_or xs i x
    → all_hold (terms_of (drop i xs)) fields ≡ (if holds (Some (term_of x)) fields then all_hold (terms_of (drop (i + 1) xs)) fields else false)
all_from xs i x fields within is = ap (λ (ys : List Formula). all_hold (terms_of ys) fields) (drop_more xs i x within ∙ ap (λ (y : Formula). y ∷ drop (i + 1) xs) (sym is))
