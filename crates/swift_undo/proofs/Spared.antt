-- Invariants whose rows have not changed still hold.
use Rattle.swift_undo.proofs.Prelude.{◌≡◌, ℕ, zero, suc, ◌+◌, ◌<◌, ℤ, Bool, true, false, if◌then◌else◌, Option, Some, None, List, [], ◌∷◌, ◌==◌, length, drop, set, get_or, refl, sym, ap, subst, ◌∙◌, inl, inr, arith, neg_ℤ, cases_eq, cond-false, ne_eqb, eq-eqb, eqb-true, get_or-set_other, unwrap_or-slice_get, Term, number, variable, field, local, priority, cancelled, opposite, denial, binary, ev, and_then, within, flag, is_zero, is_met, number_at, joined, only_fields, holds, restored, is_saved, AllHold, reads_only, AreSpared, HaveRows, OthersHold}

-- a row that was not saved is as before
row_stays : (saved : List (ℕ × List ℤ)) (fields : List (List ℤ)) (row : ℕ) → is_saved saved row ≡ false → get_or (restored saved fields) row [] ≡ get_or fields row []
row_stays [] fields row h = refl
row_stays (p ∷ older) fields row h = elim (cases_eq p.0 row) [
  | inl same ↦
      let is : (if p.0 == row then true else is_saved older row) ≡ true = ap (λ (b : Bool). if b then true else is_saved older row) (eq-eqb p.0 row same) in
      let never : true ≡ false = sym is ∙ h in
      absurd (cc)
  | inr other ↦
      let further : is_saved older row ≡ false = sym (cond-false (p.0 == row) true (is_saved older row) (ne_eqb p.0 row other)) ∙ h in
      row_stays older (set fields p.0 p.1) row further ∙ get_or-set_other fields p.0 row p.1 [] (λ e. other (sym e))
]

both : (x y : Bool) → (if x then y else false) ≡ true → (x ≡ true) × (y ≡ true)
both true y h = (refl, h)
both false y h = absurd (cc)

-- an expression that reads one row alone has the same value where that row is the same
reads_same : (t : Term) (row : ℕ) (f f' : List (List ℤ)) → reads_only row t ≡ true → get_or f row [] ≡ get_or f' row [] → ev t (only_fields f) ≡ ev t (only_fields f')
reads_same (number n) row f f' reads same = refl
reads_same (variable x) row f f' reads same = refl
reads_same (field p) row f f' reads same =
    let at : get_or f p.actor [] ≡ get_or f' p.actor [] = subst (λ (k : ℕ). get_or f k [] ≡ get_or f' k []) (sym (eqb-true p.actor row reads)) same in
    ap (λ (xs : List ℤ). Some (number_at xs p.field)) (unwrap_or-slice_get f p.actor [] ∙ (at ∙ sym (unwrap_or-slice_get f' p.actor [])))
reads_same (local l d) row f f' reads same = refl
reads_same priority row f f' reads same = refl
reads_same cancelled row f f' reads same = refl
reads_same (opposite t) row f f' reads same = ap (λ (v : Option ℤ). and_then v (λ x. within (neg_ℤ x))) (reads_same t row f f' reads same)
reads_same (denial t) row f f' reads same = ap (λ (v : Option ℤ). and_then v (λ x. Some (flag (is_zero x)))) (reads_same t row f f' reads same)
reads_same (binary op a b) row f f' reads same =
    let parts = both (reads_only row a) (reads_only row b) reads in
    ap (λ (v : Option ℤ). and_then v (λ x. joined op x (ev b (only_fields f)))) (reads_same a row f f' parts.0 same)
    ∙ ap (λ (v : Option ℤ). and_then (ev a (only_fields f')) (λ x. joined op x v)) (reads_same b row f f' parts.1 same)

-- an invariant that is not tested after a turn holds, since it did before
pub others_hold : (invariants : List Term) (rows : List ℕ) (saved : List (ℕ × List ℤ)) (fields before : List (List ℤ)) → restored saved fields ≡ before → AreSpared rows invariants before → OthersHold invariants rows saved fields
others_hold [] rows saved fields before is spared = tt
others_hold (t ∷ ts) [] saved fields before is spared = ((λ never. absurd (cc)), others_hold ts [] saved fields before is tt)
others_hold (t ∷ ts) (row ∷ rows) saved fields before is spared = (
  (λ unsaved.
      let stays : get_or fields row [] ≡ get_or before row [] = sym (row_stays saved fields row unsaved) ∙ ap (λ (f : List (List ℤ)). get_or f row []) is in
      ap is_met (reads_same t row fields before spared.0.0 stays) ∙ spared.0.1),
  others_hold ts rows saved fields before is spared.1,
)

-- where all hold, those that have rows may be spared
pub spared : (rows : List ℕ) (invariants : List Term) (fields : List (List ℤ)) → HaveRows rows invariants → AllHold invariants fields → AreSpared rows invariants fields
spared [] ts fields have all = tt
spared (row ∷ rows) [] fields have all = tt
spared (row ∷ rows) (t ∷ ts) fields have all =
    ((have.0, all t (0, (omega arith), refl)), spared rows ts fields have.1 (λ u is. all u (suc is.0, (omega (arith, is.1)), is.2)))
