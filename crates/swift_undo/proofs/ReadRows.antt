-- The rows that invariants read stand beside them.
use Rattle.swift_undo.proofs.Prelude.{◌≡◌, ℕ, zero, suc, ◌+◌, ◌<◌, Bool, true, false, if◌then◌else◌, Some, None, List, [], ◌∷◌, ◌++◌, length, map, take, set, get_or, refl, sym, ap, subst, ◌∙◌, inl, inr, arith, Contains, slice_get, Vec, Global, cases_eq, get_or-map, get_or-set_other, get_or-set_same, get_or-take, length-map, length-take-le, map-append, map-set, Contains-append_left, Contains-push, Term, reads_only, row_of, rows_read, HaveRows, AreListed, places_of}

beside : (t : Term) (ts : List Term) (reads : Bool) → reads_only (row_of t) t ≡ reads → HaveRows (rows_read ts) ts → HaveRows (if reads then row_of t ∷ rows_read ts else []) (t ∷ ts)
beside t ts true is have = (is, have)
beside t ts false is have = tt

pub read_have : (ts : List Term) → HaveRows (rows_read ts) ts
read_have [] = tt
read_have (t ∷ ts) = beside t ts (reads_only (row_of t) t) refl (read_have ts)

pub rows_have : (rows : List ℕ) (ts : List Term) → rows ≡ rows_read ts → HaveRows rows ts
rows_have rows ts is = subst (λ (rs : List ℕ). HaveRows rs ts) (sym is) (read_have ts)

-- the list of a row that has one
list_there : (readers : List (Vec ℕ Global)) (row : ℕ) (x : Vec ℕ Global) → slice_get readers row ≡ Some x → get_or (places_of readers) row [] ≡ x.items
list_there [] row x is = absurd (cc)
list_there (r ∷ rs) zero x is = let same : r ≡ x = cc in ap (λ (v : Vec ℕ Global). v.items) same
list_there (r ∷ rs) (suc row) x is = list_there rs row x is

no_list : (readers : List (Vec ℕ Global)) (row : ℕ) → slice_get readers row ≡ None → get_or (places_of readers) row [] ≡ []
no_list [] row is = refl
no_list (r ∷ rs) zero is = absurd (cc)
no_list (r ∷ rs) (suc row) is = no_list rs row is

-- the places in which a row stands are on its list
pub listed_some : (readers : List (Vec ℕ Global)) (rows : List ℕ) (row : ℕ) (x : Vec ℕ Global) → AreListed (places_of readers) rows → slice_get readers row ≡ Some x
    → (place : ℕ) → place < length rows → get_or rows place 0 ≡ row → Contains x.items place
listed_some readers rows row x are is place within same =
    subst (λ (ps : List ℕ). Contains ps place) (ap (λ (k : ℕ). get_or (places_of readers) k []) same ∙ list_there readers row x is) (are place within)

-- one that has no list stands nowhere
pub listed_none : (readers : List (Vec ℕ Global)) (rows : List ℕ) (row : ℕ) → AreListed (places_of readers) rows → slice_get readers row ≡ None
    → (place : ℕ) → place < length rows → get_or rows place 0 ≡ row → Contains [] place
listed_none readers rows row are is place within same =
    subst (λ (ps : List ℕ). Contains ps place) (ap (λ (k : ℕ). get_or (places_of readers) k []) same ∙ no_list readers row is) (are place within)

-- a list more changes no row's places
pub list_more : (ps : List (List ℕ)) (k : ℕ) → get_or (ps ++ [] ∷ []) k [] ≡ get_or ps k []
list_more [] zero = refl
list_more [] (suc k) = refl
list_more (q ∷ qs) zero = refl
list_more (q ∷ qs) (suc k) = list_more qs k

pub reach_more : (readers : List (Vec ℕ Global)) (x : Vec ℕ Global) (k : ℕ) → x.items ≡ [] → get_or (places_of (readers ++ x ∷ [])) k [] ≡ get_or (places_of readers) k []
reach_more readers x k none =
    ap (λ (ps : List (List ℕ)). get_or ps k []) (map-append (λ (v : Vec ℕ Global). v.items) readers (x ∷ []) ∙ ap (λ (last : List ℕ). places_of readers ++ last ∷ []) none)
    ∙ list_more (places_of readers) k

-- what a list is after a place was added to it
places_set : (readers : List (Vec ℕ Global)) (row : ℕ) (v : Vec ℕ Global) → places_of (set readers row v) ≡ set (places_of readers) row v.items
places_set readers row v = map-set (λ (x : Vec ℕ Global). x.items) readers row v

row_list : (readers : List (Vec ℕ Global)) (row : ℕ) (x : Vec ℕ Global) → row < length readers → x ≡ get_or readers row x → get_or (places_of readers) row [] ≡ x.items
row_list readers row x within is = get_or-map (λ (v : Vec ℕ Global). v.items) readers row x [] within ∙ ap (λ (v : Vec ℕ Global). v.items) (sym is)

pub added_there : (readers : List (Vec ℕ Global)) (row place : ℕ) (x v : Vec ℕ Global) → row < length readers → v.items ≡ x.items ++ place ∷ []
    → Contains (get_or (places_of (set readers row v)) row []) place
added_there readers row place x v within is =
    let at : row < length (places_of readers) = subst (λ (n : ℕ). row < n) (sym (length-map readers (λ (y : Vec ℕ Global). y.items))) within in
    subst (λ (ps : List ℕ). Contains ps place) (sym (ap (λ (qs : List (List ℕ)). get_or qs row []) (places_set readers row v) ∙ get_or-set_same (places_of readers) row v.items [] at ∙ is)) (Contains-push x.items place)

pub added_kept : (readers : List (Vec ℕ Global)) (row place : ℕ) (x v : Vec ℕ Global) → row < length readers → x ≡ get_or readers row x → v.items ≡ x.items ++ place ∷ []
    → (k p : ℕ) → Contains (get_or (places_of readers) k []) p → Contains (get_or (places_of (set readers row v)) k []) p
added_kept readers row place x v within at is k p has = elim (cases_eq k row) [
  | inl same ↦
      let here : row < length (places_of readers) = subst (λ (n : ℕ). row < n) (sym (length-map readers (λ (y : Vec ℕ Global). y.items))) within in
      let old : Contains x.items p = subst (λ (ps : List ℕ). Contains ps p) (ap (λ (j : ℕ). get_or (places_of readers) j []) same ∙ row_list readers row x within at) has in
      let now : get_or (places_of (set readers row v)) k [] ≡ x.items ++ place ∷ [] =
      ap (λ (j : ℕ). get_or (places_of (set readers row v)) j []) same ∙ ap (λ (qs : List (List ℕ)). get_or qs row []) (places_set readers row v) ∙ get_or-set_same (places_of readers) row v.items [] here ∙ is in
      subst (λ (ps : List ℕ). Contains ps p) (sym now) (Contains-append_left x.items (place ∷ []) p old)
  | inr other ↦
      let now : get_or (places_of (set readers row v)) k [] ≡ get_or (places_of readers) k [] =
      ap (λ (qs : List (List ℕ)). get_or qs k []) (places_set readers row v) ∙ get_or-set_other (places_of readers) row k v.items [] other in
      subst (λ (ps : List ℕ). Contains ps p) (sym now) has
]

-- the rows up to one more are listed, where its place was added
pub listed_more : (before after : List (List ℕ)) (rows : List ℕ) (i row : ℕ) → i < length rows → row ≡ get_or rows i 0 → AreListed before (take i rows)
    → Contains (get_or after row []) i → ((k p : ℕ) → Contains (get_or before k []) p → Contains (get_or after k []) p) → AreListed after (take (i + 1) rows)
listed_more before after rows i row within is are there kept place less =
    let long : length (take (i + 1) rows) ≡ i + 1 = length-take-le (i + 1) rows (omega (arith, within)) in
    let lt : place < i + 1 = subst (λ (n : ℕ). place < n) long less in
    let one : get_or (take (i + 1) rows) place 0 ≡ get_or rows place 0 = get_or-take (i + 1) rows place 0 lt in
    elim (cases_eq place i) [
      | inl same ↦
          let row_is : get_or (take (i + 1) rows) place 0 ≡ row = one ∙ ap (λ (k : ℕ). get_or rows k 0) same ∙ sym is in
          subst (λ (r : ℕ). Contains (get_or after r []) place) (sym row_is) (subst (λ (p : ℕ). Contains (get_or after row []) p) (sym same) there)
      | inr other ↦
          let old : place < i = omega (arith, lt, other) in
          let was : get_or (take i rows) place 0 ≡ get_or (take (i + 1) rows) place 0 = get_or-take i rows place 0 old ∙ sym one in
          let short : length (take i rows) ≡ i = length-take-le i rows (omega (arith, within)) in
          kept (get_or (take (i + 1) rows) place 0) place
          (subst (λ (r : ℕ). Contains (get_or before r []) place) was (are place (subst (λ (n : ℕ). place < n) (sym short) old)))
    ]
