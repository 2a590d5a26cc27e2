-- Saved rows, one more or one less.
use Rattle.swift_interpreter.proofs.Prelude.{◌≡◌, ℕ, zero, suc, ◌+◌, ◌-◌, ◌<◌, ◌≤◌, ℤ, Bool, true, if◌then◌else◌, List, [], ◌∷◌, ◌==◌, length, reverse, take, set, get_or, refl, sym, ap, subst, ◌∙◌, add-one, inl, inr, arith, get_or-map, get_or-reverse, get_or-set_other, get_or-take, length-reverse, length-set, length-take-le, reverse-append, set-set, set_comm, set-get_or, take_more_set, map-set, cases_eq, cond-false, eq-eqb, ne_eqb, Vec, rows_of, set_field_of, restored, is_saved, newest_first, oldest, row_of, SavedRow}
use Rattle.std.proofs.Math.Seq.{take-suc}
use Rattle.script_code.specs.declared.formula.FieldPlace.{FieldPlace}

-- the last of some rows is the newest
pub newest_more : (rows : List SavedRow) (k : ℕ) (d : SavedRow) → k < length rows → newest_first (take (k + 1) rows) ≡ row_of (get_or rows k d) ∷ newest_first (take k rows)
newest_more rows k d h = rw (add-one, take-suc rows k d, reverse-append) refl

pub newest_last : (rows : List SavedRow) (k : ℕ) (d : SavedRow) → 0 < k → k ≤ length rows → newest_first (take k rows) ≡ row_of (get_or rows (k - 1) d) ∷ newest_first (take (k - 1) rows)
newest_last rows k d some within =
    let at : k - 1 < length rows = omega arith in
    let one : k ≡ (k - 1) + 1 = omega arith in
    ap (λ (n : ℕ). newest_first (take n rows)) one ∙ newest_more rows (k - 1) d at

pub row_set : (rows : List (Vec ℤ)) (k : ℕ) (row : Vec ℤ) → rows_of (set rows k row) ≡ set (rows_of rows) k row.items
row_set rows k row = map-set (λ (r : Vec ℤ). r.items) rows k row

-- an actor's row, where there is one
row_at_is : (fields : List (Vec ℤ)) (k : ℕ) (x : Vec ℤ) → k < length fields → x ≡ get_or fields k x → get_or (rows_of fields) k [] ≡ x.items
row_at_is [] k x h e = absurd (omega arith)
row_at_is (r ∷ rs) zero x h e = ap (λ (r : Vec ℤ). r.items) (sym e)
row_at_is (r ∷ rs) (suc k) x h e = row_at_is rs k x (omega arith) e

-- a field is set where its row is
pub field_set : (fields : List (Vec ℤ)) (p : FieldPlace) (v : ℤ) (x row : Vec ℤ) → p.actor < length fields → x ≡ get_or fields p.actor x → row.items ≡ set x.items p.field v → rows_of (set fields p.actor row) ≡ set_field_of (rows_of fields) p v
field_set fields p v x row h e is =
    row_set fields p.actor row ∙ ap (set (rows_of fields) p.actor) (is ∙ ap (λ (xs : List ℤ). set xs p.field v) (sym (row_at_is fields p.actor x h e)))

-- a row that is written there is the newest
pub newest_set : (rows : List SavedRow) (k : ℕ) (r : SavedRow) → k < length rows → newest_first (take (k + 1) (set rows k r)) ≡ row_of r ∷ newest_first (take k rows)
newest_set rows k r h = rw (take_more_set rows k r h, reverse-append) refl

-- a saved copy of the row that is there puts back what is there
pub saved_same : (saved : List (ℕ × List ℤ)) (fields : List (List ℤ)) (a : ℕ) → restored ((a, get_or fields a []) ∷ saved) fields ≡ restored saved fields
saved_same saved fields a = ap (restored saved) (set-get_or fields a [])

-- a row that is saved may be changed
pub saved_set : (saved : List (ℕ × List ℤ)) (fields : List (List ℤ)) (a : ℕ) (row : List ℤ) → is_saved saved a ≡ true → restored saved (set fields a row) ≡ restored saved fields
saved_set [] fields a row h = absurd (cc)
saved_set (p ∷ older) fields a row h = elim (cases_eq p.0 a) [
  | inl same ↦ ap (restored older) (subst (λ (i : ℕ). set (set fields i row) p.0 p.1 ≡ set fields p.0 p.1) same (set-set fields p.0 row p.1))
  | inr other ↦
      let further : is_saved older a ≡ true = sym (cond-false (p.0 == a) true (is_saved older a) (ne_eqb p.0 a other)) ∙ h in
      ap (restored older) (set_comm fields a p.0 row p.1 (λ e. other (sym e))) ∙ saved_set older (set fields p.0 p.1) a row further
]

-- a row that is put back is there
put_same : (fields : List (List ℤ)) (actor : ℕ) (row : List ℤ) → actor < length fields → get_or (set fields actor row) actor [] ≡ row
put_same [] actor row lt = absurd (omega (arith, lt))
put_same (r ∷ rs) zero row lt = refl
put_same (r ∷ rs) (suc actor) row lt = put_same rs actor row (omega (arith, lt))

-- the row that an actor has where one is put back
row_put : (fields : List (List ℤ)) (place actor : ℕ) (row : List ℤ) → actor < length fields → get_or (set fields place row) actor [] ≡ (if place == actor then row else get_or fields actor [])
row_put fields place actor row lt = elim (cases_eq place actor) [
  | inl same ↦ subst (λ (i : ℕ). get_or (set fields i row) actor [] ≡ (if i == actor then row else get_or fields actor [])) (sym same)
      (put_same fields actor row lt ∙ sym (ap (λ (b : Bool). if b then row else get_or fields actor []) (eq-eqb actor actor refl)))
  | inr other ↦ get_or-set_other fields place actor row [] (λ e. other (sym e)) ∙ sym (cond-false (place == actor) row (get_or fields actor []) (ne_eqb place actor other))
]

-- the row that an actor has once all are put back
row_restored : (saved : List (ℕ × List ℤ)) (fields : List (List ℤ)) (actor : ℕ) → actor < length fields → oldest saved actor (get_or fields actor []) ≡ get_or (restored saved fields) actor []
row_restored [] fields actor lt = refl
row_restored (p ∷ older) fields actor lt =
    ap (oldest older actor) (sym (row_put fields p.0 actor p.1 lt))
    ∙ row_restored older (set fields p.0 p.1) actor (subst (λ (n : ℕ). actor < n) (sym (length-set fields p.0 p.1)) lt)

pub oldest_is : (saved : List (ℕ × List ℤ)) (fields : List (List ℤ)) (actor : ℕ) (row : List ℤ) → actor < length fields → get_or fields actor [] ≡ row → oldest saved actor row ≡ get_or (restored saved fields) actor []
oldest_is saved fields actor row lt is = ap (oldest saved actor) (sym is) ∙ row_restored saved fields actor lt

-- the actor of the row in a place, the newest first
pub actor_at : (rows : List SavedRow) (used place : ℕ) (x : SavedRow) → used ≤ length rows → place < used → x ≡ get_or rows (used - 1 - place) x → (get_or (newest_first (take used rows)) place (0, [])).0 ≡ x.actor
actor_at rows used place x within at is =
    let some : length (take used rows) ≡ used = length-take-le used rows within in
    let lt : place < length (reverse (take used rows)) = subst (λ (n : ℕ). place < n) (sym (length-reverse (take used rows) ∙ some)) at in
    let first : place < length (take used rows) = subst (λ (n : ℕ). place < n) (sym some) at in
    ap (λ (p : ℕ × List ℤ). p.0) (get_or-map row_of (reverse (take used rows)) place x (0, []) lt)
    ∙ ap (λ (r : SavedRow). r.actor) (get_or-reverse (take used rows) place x first
    ∙ ap (λ (n : ℕ). get_or (take used rows) (n - 1 - place) x) some
    ∙ get_or-take used rows (used - 1 - place) x (omega (arith, at))
    ∙ sym is)
