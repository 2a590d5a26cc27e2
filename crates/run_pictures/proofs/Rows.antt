-- Rows of fields, of which those that differ were saved.
use Rattle.run_pictures.proofs.Prelude.{◌≡◌, ℕ, ℤ, ◌+◌, ◌<◌, Bool, true, false, if◌then◌else◌, List, [], ◌∷◌, ◌++◌, ◌==◌, ◌≤◌, pos, length, take, drop, set, get_or, refl, sym, ap, ap₂, ◌∙◌, inl, inr, arith, cases_eq, cases_lt, cond-false, ne_eqb, eq-eqb, get_or-set_other, get_or-drop, at_drop_more, at_drop_all, drop-drop, drop-set-lt, take_more, take_more_set, Change, difference, differences, row_differences}
use Prim.Native.Nat.{min}
use Rattle.std.proofs.lemmas.Bool.Decides.{Decides-int_eq}
use Rattle.std.proofs.lemmas.List.{length-set, append-nil}
use Rattle.swift_interpreter.specs.Saved.{restored, is_saved}

-- a row that was not saved is as before
pub row_stays : (saved : List (ℕ × List ℤ)) (fields : List (List ℤ)) (row : ℕ) → is_saved saved row ≡ false → get_or (restored saved fields) row [] ≡ get_or fields row []
row_stays [] fields row h = refl
row_stays (p ∷ older) fields row h = elim (cases_eq p.0 row) [
  | inl same ↦
      let is : (if p.0 == row then true else is_saved older row) ≡ true = ap (λ (b : Bool). if b then true else is_saved older row) (eq-eqb p.0 row same) in
      let never : true ≡ false = sym is ∙ h in
      absurd (cc)
  | inr other ↦
      let further : is_saved older row ≡ false = sym (cond-false (p.0 == row) true (is_saved older row) (ne_eqb p.0 row other)) ∙ h in
      row_stays older (set fields p.0 p.1) row further ∙ get_or-set_other fields p.0 row p.1 [] (λ e. other (sym e))
]

-- as many rows as before
pub restored_length : (saved : List (ℕ × List ℤ)) (fields : List (List ℤ)) → length (restored saved fields) ≡ length fields
restored_length [] fields = refl
restored_length (p ∷ older) fields = restored_length older (set fields p.0 p.1) ∙ length-set fields p.0 p.1

-- a row that was not saved, of fields that are restored
pub row_same : (saved : List (ℕ × List ℤ)) (before after : List (List ℤ)) (row : ℕ) → restored saved after ≡ before → is_saved saved row ≡ false → get_or before row [] ≡ get_or after row []
row_same saved before after row is unsaved = ap (λ (f : List (List ℤ)). get_or f row []) (sym is) ∙ row_stays saved after row unsaved

pub same_length : (saved : List (ℕ × List ℤ)) (before after : List (List ℤ)) → restored saved after ≡ before → length before ≡ length after
same_length saved before after is = ap length (sym is) ∙ restored_length saved after

number_same : (actor field : ℕ) (x : ℤ) → difference actor field x x ≡ []
number_same actor field x = ap (λ (b : Bool). if b then [] else record { actor = actor; field = field; before = x; after = x } ∷ []) ((Decides-int_eq x x).1 refl)

same_row : (actor field : ℕ) (xs : List ℤ) → row_differences actor field xs xs ≡ []
same_row actor field [] = refl
same_row actor field (x ∷ xs) = ap (λ (d : List Change). d ++ row_differences actor (field + 1) xs xs) (number_same actor field x) ∙ same_row actor (field + 1) xs

-- a row that is the same has no differences
pub no_difference : (changes : List Change) (actor : ℕ) (before after : List ℤ) → before ≡ after → changes ≡ changes ++ row_differences actor 0 before after
no_difference changes actor before after same =
    sym (ap (λ (ys : List ℤ). changes ++ row_differences actor 0 ys after) same ∙ ap (λ (d : List Change). changes ++ d) (same_row actor 0 after) ∙ append-nil changes)

row_none : (actor field : ℕ) (xs : List ℤ) → row_differences actor field xs [] ≡ []
row_none actor field [] = refl
row_none actor field (x ∷ xs) = refl

pub row_end : (actor i : ℕ) (xs ys : List ℤ) → min (length xs) (length ys) ≤ i → row_differences actor i (drop i xs) (drop i ys) ≡ []
row_end actor i xs ys past = elim (cases_lt i (length xs)) [
  | inl lt ↦
      let short : length ys ≤ i = omega arith in
      at_drop_all (λ (bs : List ℤ). row_differences actor i (drop i xs) bs) ys i short ∙ row_none actor i (drop i xs)
  | inr ge ↦ at_drop_all (λ (l : List ℤ). row_differences actor i l (drop i ys)) xs i ge
]

-- the differences of rows from row `i` on: those of row `i`, and then those of the rows after it
pub rows_more : (i : ℕ) (xs ys : List (List ℤ)) → i < length xs → i < length ys
    → differences i (drop i xs) (drop i ys) ≡ row_differences i 0 (get_or xs i []) (get_or ys i []) ++ differences (i + 1) (drop (i + 1) xs) (drop (i + 1) ys)
rows_more i xs ys within below =
    at_drop_more (λ (l : List (List ℤ)). differences i l (drop i ys)) xs i [] within
    ∙ at_drop_more (λ (bs : List (List ℤ)). differences i (get_or xs i [] ∷ drop (i + 1) xs) bs) ys i [] below

pub rows_end : (i : ℕ) (xs ys : List (List ℤ)) → length xs ≡ length ys → length xs ≤ i → differences i (drop i xs) (drop i ys) ≡ []
rows_end i xs ys same past = at_drop_all (λ (l : List (List ℤ)). differences i l (drop i ys)) xs i past

-- where two lists are the same from a place on, they are so at that place
pub at_drop_same : (xs ys : List (List ℤ)) (i : ℕ) → drop i xs ≡ drop i ys → get_or xs i [] ≡ get_or ys i []
at_drop_same xs ys i same =
    let here : i ≡ i + 0 = omega arith in
    ap (λ (k : ℕ). get_or xs k []) here
    ∙ sym (get_or-drop i xs 0 [])
    ∙ ap (λ (l : List (List ℤ)). get_or l 0 []) same
    ∙ get_or-drop i ys 0 []
    ∙ sym (ap (λ (k : ℕ). get_or ys k []) here)

-- a row that becomes that of another list
pub followed_more : (xs ys : List (List ℤ)) (i : ℕ) (y : List ℤ) → i < length xs → i < length ys → take i xs ≡ take i ys → y ≡ get_or ys i [] → take (i + 1) (set xs i y) ≡ take (i + 1) ys
followed_more xs ys i y within below same is =
    take_more_set xs i y within ∙ ap₂ (λ (front : List (List ℤ)) (row : List ℤ). front ++ row ∷ []) same is ∙ sym (take_more ys i [] below)

pub left_more : (xs zs : List (List ℤ)) (i : ℕ) (y : List ℤ) → drop i xs ≡ drop i zs → drop (i + 1) (set xs i y) ≡ drop (i + 1) zs
left_more xs zs i y same = drop-set-lt (i + 1) xs i y (omega arith) ∙ (sym (drop-drop 1 i xs) ∙ ap (drop 1) same ∙ drop-drop 1 i zs)
