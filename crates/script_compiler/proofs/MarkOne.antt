-- Marks after one method was marked, and after two steps.
use Rattle.script_compiler.proofs.Prelude.{◌≡◌, ℕ, ◌+◌, ◌≤◌, ◌<◌, ◌⊎◌, List, [], ◌∷◌, ◌++◌, Bool, true, false, not, cond, length, get_or, set, refl, ap, sym, subst, ◌∙◌, inl, inr, arith, get_or-set_same, get_or-set_other, length_push, length-set, sum_by-set, Contains-push, Contains-push_cases, Contains-append_left, cases_eq, Contains, count_of, Marking, MarkingAll, Marks}
use Rattle.std.specs.List.{count_by}

pub marking_none : (is_in : ℕ → Type 0) (s : Marks) → Marking is_in s s
marking_none is_in s = record {
  count = refl;
  kept = λ m h. h;
  only = λ m h. inl h;
  still_pending = λ m h. h;
  added = λ m h. inl h;
  marked = λ m h. inl h;
  left = omega arith;
}

pub marking_more : (some more : ℕ → Type 0) (a b c : Marks) → Marking more a b → Marking some b c → ((m : ℕ) → some m → more m) → Marking more a c
marking_more some more a b c f g wider = record {
  count = g.count ∙ f.count;
  kept = λ m h. g.kept m (f.kept m h);
  only = λ m h. elim (g.only m h) [ inl w ↦ f.only m w | inr i ↦ inr (wider m i) ];
  still_pending = λ m h. g.still_pending m (f.still_pending m h);
  added = λ m h. elim (g.added m h) [
    | inl w ↦ elim (f.added m w) [ inl v ↦ inl v | inr p ↦ inr (g.still_pending m p) ]
    | inr p ↦ inr p
  ];
  marked = λ m h. elim (g.marked m h) [
    | inl p ↦ elim (f.marked m p) [ inl q ↦ inl q | inr w ↦ inr (g.kept m w) ]
    | inr w ↦ inr w
  ];
  left = let x = f.left in let y = g.left in omega (arith, x, y);
}

module _ (xs : List Bool) (ps : List ℕ) (t : ℕ) (l : t < length xs) (not_yet : get_or xs t false ≡ false) where
  set_kept : (m : ℕ) → get_or xs m false ≡ true → get_or (set xs t true) m false ≡ true
  set_kept m h = elim (cases_eq m t) [
    | inl e ↦ subst (λ (i : ℕ). get_or (set xs t true) i false ≡ true) (sym e) (get_or-set_same xs t true false l)
    | inr n ↦ get_or-set_other xs t m true false n ∙ h
  ]

  set_cases : (m : ℕ) → get_or (set xs t true) m false ≡ true → (get_or xs m false ≡ true) ⊎ (m ≡ t)
  set_cases m h = elim (cases_eq m t) [
    | inl e ↦ inr e
    | inr n ↦ inl (sym (get_or-set_other xs t m true false n) ∙ h)
  ]

  set_left : length (ps ++ t ∷ []) + count_by not (set xs t true) ≤ length ps + count_by not xs
  set_left =
      let s = sum_by-set (λ (b : Bool). cond (not b) 1 0) xs t true false l in
      let one : ◌≡◌ {A = ℕ} (cond (not (get_or xs t false)) 1 0) 1 = ap (λ (b : Bool). cond (not b) 1 0) not_yet in
      let n = length_push ps t in
      omega (arith, s, one, n)

  set_added : (m : ℕ) → get_or (set xs t true) m false ≡ true → (get_or xs m false ≡ true) ⊎ Contains (ps ++ t ∷ []) m
  set_added m h = elim (set_cases m h) [
    | inl w ↦ inl w
    | inr e ↦ inr (subst (Contains (ps ++ t ∷ [])) (sym e) (Contains-push ps t))
  ]

  set_marked : (m : ℕ) → Contains (ps ++ t ∷ []) m → Contains ps m ⊎ (get_or (set xs t true) m false ≡ true)
  set_marked m h = elim (Contains-push_cases ps t m h) [
    | inl p ↦ inl p
    | inr e ↦ inr (subst (λ (i : ℕ). get_or (set xs t true) i false ≡ true) e (get_or-set_same xs t true false l))
  ]

  set_all : (m : ℕ) → m ≡ t → get_or (set xs t true) m false ≡ true
  set_all m e = subst (λ (i : ℕ). get_or (set xs t true) i false ≡ true) (sym e) (get_or-set_same xs t true false l)

pub mark_one : (old new : Marks) (t : ℕ) → t < count_of old → get_or old.marked.items t false ≡ false
    → new.marked.items ≡ set old.marked.items t true → new.pending.items ≡ old.pending.items ++ t ∷ []
    → MarkingAll (λ m. m ≡ t) old new
mark_one old new t l not_yet marked pending =
    let xs : List Bool = old.marked.items in
    let ps : List ℕ = old.pending.items in
    record {
      marking = record {
        count = ap length marked ∙ length-set xs t true;
        kept = rw marked (set_kept xs ps t l not_yet);
        only = rw marked (set_cases xs ps t l not_yet);
        still_pending = rw pending (λ m h. Contains-append_left ps (t ∷ []) m h);
        added = rw (marked, pending) (set_added xs ps t l not_yet);
        marked = rw (marked, pending) (set_marked xs ps t l not_yet);
        left = rw (marked, pending) (set_left xs ps t l not_yet);
      };
      all = rw marked (set_all xs ps t l not_yet);
    }
