-- Entries and the table of the newest ones, after a push and after a pop.
use Rattle.std.proofs.Common.{◌≡◌, ℕ, ℤ, ◌+◌, ◌<◌, List, Option, None, Some, [], ◌∷◌, ◌++◌, length, map, drop, ◌-◌, reverse, set, get_or, eqb, refl, ap, sym, subst, ◌∙◌, inl, inr, arith}
use Rattle.std.proofs.lemmas.List.{length-drop, drop-drop, reverse-append, reverse-reverse, length-reverse, get_or-set_same, get_or-set_other, get_or_past, get_or_append_left, get_or_push, map-append, get_or-map}
use Rattle.std.proofs.lemmas.Bool.{cases_eq, cases_lt, cond-true, cond-false, eq-eqb, ne_eqb}
use Rattle.std.proofs.lemmas.Option.{same_Some, none-some}
use Rattle.swift_locals.specs.Bindings.{value_of}
use Rattle.swift_locals.specs.BindingsInside.{pair_of, pairs_of, place_of, IsTable, AreChained}
use Rattle.swift_locals.specs.declared.bindings.BindingEntry.{BindingEntry}

pub reverse_push : (xs : List BindingEntry) (e : BindingEntry) → reverse (xs ++ e ∷ []) ≡ e ∷ reverse xs
reverse_push xs e = reverse-append xs (e ∷ [])

place_same : (older : List BindingEntry) (e : BindingEntry) (l : ℕ) → e.local.0 ≡ l → place_of (e ∷ older) l ≡ Some (length older)
place_same older e l h = cond-true (eqb e.local.0 l) (Some (length older)) (place_of older l) (eq-eqb e.local.0 l h)

place_other : (older : List BindingEntry) (e : BindingEntry) (l : ℕ) → (e.local.0 ≡ l → ⊥) → place_of (e ∷ older) l ≡ place_of older l
place_other older e l h = cond-false (eqb e.local.0 l) (Some (length older)) (place_of older l) (ne_eqb e.local.0 l h)

value_same : (ps : List (ℕ × ℤ)) (p : ℕ × ℤ) (l : ℕ) → p.0 ≡ l → value_of (p ∷ ps) l ≡ Some p.1
value_same ps p l h = cond-true (eqb p.0 l) (Some p.1) (value_of ps l) (eq-eqb p.0 l h)

value_other : (ps : List (ℕ × ℤ)) (p : ℕ × ℤ) (l : ℕ) → (p.0 ≡ l → ⊥) → value_of (p ∷ ps) l ≡ value_of ps l
value_other ps p l h = cond-false (eqb p.0 l) (Some p.1) (value_of ps l) (ne_eqb p.0 l h)

-- the newest entry's local is in the table
pub table_within : (es : List BindingEntry) (e : BindingEntry) (newest : List (Option ℕ)) → IsTable (e ∷ es) newest → e.local.0 < length newest
table_within es e newest t = elim (cases_lt e.local.0 (length newest)) [
  | inl lt ↦ lt
  | inr ge ↦ absurd (none-some (length es) (sym (get_or_past newest e.local.0 None ge) ∙ t.at e.local.0 ∙ place_same es e e.local.0 refl))
]

pub table_push : (es : List BindingEntry) (e : BindingEntry) (newest : List (Option ℕ)) → IsTable es newest → e.local.0 < length newest → IsTable (e ∷ es) (set newest e.local.0 (Some (length es)))
table_push es e newest t h = record {
  at = λ l. elim (cases_eq l e.local.0) [
    | inl same ↦ ap (λ (i : ℕ). get_or (set newest e.local.0 (Some (length es))) i None) same ∙ get_or-set_same newest e.local.0 (Some (length es)) None h ∙ sym (place_same es e l (sym same))
    | inr other ↦ get_or-set_other newest e.local.0 l (Some (length es)) None other ∙ t.at l ∙ sym (place_other es e l (λ s. other (sym s)))
  ];
}

pub table_pop : (es : List BindingEntry) (e : BindingEntry) (newest : List (Option ℕ)) → IsTable (e ∷ es) newest → e.below ≡ place_of es e.local.0 → IsTable es (set newest e.local.0 e.below)
table_pop es e newest t below = record {
  at = λ l. elim (cases_eq l e.local.0) [
    | inl same ↦ ap (λ (i : ℕ). get_or (set newest e.local.0 e.below) i None) same ∙ get_or-set_same newest e.local.0 e.below None (table_within es e newest t) ∙ below ∙ ap (λ (i : ℕ). place_of es i) (sym same)
    | inr other ↦ get_or-set_other newest e.local.0 l e.below None other ∙ t.at l ∙ place_other es e l (λ s. other (sym s))
  ];
}

-- a local with no place has no value
pub value_none : (es : List BindingEntry) (l : ℕ) → place_of es l ≡ None → value_of (map pair_of es) l ≡ None
value_none [] l h = refl
value_none (e ∷ es) l h = elim (cases_eq e.local.0 l) [
  | inl same ↦ absurd (none-some (length es) (sym h ∙ place_same es e l same))
  | inr other ↦ value_other (map pair_of es) (pair_of e) l other ∙ value_none es l (sym (place_other es e l other) ∙ h)
]

-- the entry at a local's place has its value
pub place_within : (es : List BindingEntry) (l k : ℕ) → place_of es l ≡ Some k → k < length es
place_within [] l k h = absurd (none-some k h)
place_within (e ∷ es) l k h = elim (cases_eq e.local.0 l) [
  | inl same ↦ let at = same_Some (length es) k (sym (place_same es e l same) ∙ h) in omega (arith, at)
  | inr other ↦ let below = place_within es l k (sym (place_other es e l other) ∙ h) in omega (arith, below)
]

pub value_some : (es : List BindingEntry) (l k : ℕ) (d : BindingEntry) → place_of es l ≡ Some k → value_of (map pair_of es) l ≡ Some (get_or (reverse es) k d).value
value_some [] l k d h = absurd (none-some k h)
value_some (e ∷ es) l k d h =
    let last : get_or (reverse (e ∷ es)) k d ≡ get_or (reverse es ++ e ∷ []) k d = ap (λ (s : List BindingEntry). get_or s k d) (reverse-append (e ∷ []) es) in
    elim (cases_eq e.local.0 l) [
      | inl same ↦ let at = same_Some (length es) k (sym (place_same es e l same) ∙ h) in
          value_same (map pair_of es) (pair_of e) l same ∙ ap (λ (x : BindingEntry). Some x.value) (sym (last ∙ get_or_push (reverse es) e d k (length-reverse es ∙ at)))
      | inr other ↦ let there = sym (place_other es e l other) ∙ h in
          let below = place_within es l k there in let len = length-reverse es in
          value_other (map pair_of es) (pair_of e) l other ∙ value_some es l k d there
          ∙ ap (λ (x : BindingEntry). Some x.value) (sym (last ∙ get_or_append_left (reverse es) (e ∷ []) d k (omega (arith, below, len))))
    ]

-- the table is one of as many entries as before, where it reads as before
pub table_same : (es : List BindingEntry) (newest newest' : List (Option ℕ)) → IsTable es newest → ((i : ℕ) → get_or newest' i None ≡ get_or newest i None) → IsTable es newest'
table_same es newest newest' t same = record { at = λ l. same l ∙ t.at l }

-- after a push onto the entries, where the table has its place
pub chained_push : (xs ys : List BindingEntry) (e : BindingEntry) → ys ≡ xs ++ e ∷ [] → AreChained (reverse xs) → e.below ≡ place_of (reverse xs) e.local.0 → AreChained (reverse ys)
chained_push xs ys e same chained below = subst AreChained (sym (ap reverse same ∙ reverse_push xs e)) (below, chained)

pub table_pushed : (xs ys : List BindingEntry) (e : BindingEntry) (newest : List (Option ℕ)) (n : ℕ) → ys ≡ xs ++ e ∷ [] → n ≡ length xs → IsTable (reverse xs) newest → e.local.0 < length newest
    → IsTable (reverse ys) (set newest e.local.0 (Some n))
table_pushed xs ys e newest n same len t h =
    let len' = length-reverse xs in
    subst (λ (m : ℕ). IsTable (reverse ys) (set newest e.local.0 (Some m))) (len' ∙ sym len)
    (subst (λ (s : List BindingEntry). IsTable s (set newest e.local.0 (Some (length (reverse xs))))) (sym (ap reverse same ∙ reverse_push xs e)) (table_push (reverse xs) e newest t h))

-- after a pop
pub chained_pop : (xs ys : List BindingEntry) (e : BindingEntry) → xs ≡ ys ++ e ∷ [] → AreChained (reverse xs) → (e.below ≡ place_of (reverse ys) e.local.0) × AreChained (reverse ys)
chained_pop xs ys e same chained = subst AreChained (ap reverse same ∙ reverse_push ys e) chained

pub table_shown : (xs ys : List BindingEntry) (e : BindingEntry) (newest : List (Option ℕ)) → xs ≡ ys ++ e ∷ [] → IsTable (reverse xs) newest → IsTable (e ∷ reverse ys) newest
table_shown xs ys e newest same t = subst (λ (s : List BindingEntry). IsTable s newest) (ap reverse same ∙ reverse_push ys e) t

-- what contracts see after a push
pub pairs_push : (xs ys : List BindingEntry) (e : BindingEntry) → ys ≡ xs ++ e ∷ [] → pairs_of ys ≡ pair_of e ∷ pairs_of xs
pairs_push xs ys e same = ap pairs_of same ∙ ap (λ (s : List BindingEntry). map pair_of s) (reverse_push xs e)

-- what a read finds
pub read_none : (xs : List BindingEntry) (newest : List (Option ℕ)) (l : ℕ) → IsTable (reverse xs) newest → get_or newest l None ≡ None → value_of (pairs_of xs) l ≡ None
read_none xs newest l t h = value_none (reverse xs) l (sym (t.at l) ∙ h)

pub read_within : (xs : List BindingEntry) (newest : List (Option ℕ)) (l k : ℕ) → IsTable (reverse xs) newest → get_or newest l None ≡ Some k → k < length xs
read_within xs newest l k t h = let w = place_within (reverse xs) l k (sym (t.at l) ∙ h) in let n = length-reverse xs in omega (arith, w, n)

pub read_some : (xs : List BindingEntry) (newest : List (Option ℕ)) (l k : ℕ) (e : BindingEntry) → IsTable (reverse xs) newest → get_or newest l None ≡ Some k → e ≡ get_or xs k e → value_of (pairs_of xs) l ≡ Some e.value
read_some xs newest l k e t h at =
    value_some (reverse xs) l k e (sym (t.at l) ∙ h) ∙ ap (λ (s : List BindingEntry). Some (get_or s k e).value) (reverse-reverse xs) ∙ ap (λ (x : BindingEntry). Some x.value) (sym at)

-- what is left of a list, after one more was dropped
pub drop_one_more : (xs ys zs : List (ℕ × ℤ)) → ys ≡ drop (length xs - length ys) xs → zs ≡ drop 1 ys → 0 < length ys → zs ≡ drop (length xs - length zs) xs
drop_one_more xs ys zs left one h =
    let a = ap length left in let b = length-drop (length xs - length ys) xs in let d = ap length one in let e = length-drop 1 ys in
    let n : length xs - length ys + 1 ≡ length xs - length zs = omega (arith, a, b, d, e) in
    one ∙ ap (λ (s : List (ℕ × ℤ)). drop 1 s) left ∙ drop-drop 1 (length xs - length ys) xs ∙ ap (λ (i : ℕ). drop i xs) n

-- the pairs, the outermost first
map_reverse : {X Y : Type 0} (f : X → Y) (xs : List X) → map f (reverse xs) ≡ reverse (map f xs)
map_reverse f [] = refl
map_reverse f (x ∷ xs) =
    ap (map f) (reverse-append (x ∷ []) xs) ∙ map-append f (reverse xs) (x ∷ []) ∙ ap (λ s. s ++ f x ∷ []) (map_reverse f xs) ∙ sym (reverse-append (f x ∷ []) (map f xs))

pub pairs_outermost_first : (es : List BindingEntry) → reverse (pairs_of es) ≡ map pair_of es
pairs_outermost_first es = ap reverse (map_reverse pair_of es) ∙ reverse-reverse (map pair_of es)

-- the pair at a place, counted from the outermost
pub pair_at : (es : List BindingEntry) (k : ℕ) (e : BindingEntry) (d : ℕ × ℤ) → k < length es → e ≡ get_or es k e → get_or (reverse (pairs_of es)) k d ≡ pair_of e
pair_at es k e d h at = ap (λ (s : List (ℕ × ℤ)). get_or s k d) (pairs_outermost_first es) ∙ get_or-map pair_of es k e d h ∙ ap pair_of (sym at)
