-- What one raise leaves.
use Rattle.swift_escalation.proofs.Prelude.{◌≡◌, ◌≢◌, ℕ, suc, ◌+◌, ◌≤◌, ◌<◌, List, Option, None, [], ◌∷◌, ◌++◌, length, get_or, set, cond, ltb, ap, sym, subst, ◌∙◌, inl, inr, arith, get_or-set_same, get_or-set_other, length_push, sum_by-set, Contains-push, Contains-push_cases, Contains-append_left, elements, common_steps, cases_eq, cases_lt, Contains, All, rank, level_of, below, edge_at, end_of, HasEdge, AreChained, Raising, Priority, Background, TaskEdge}

pub level_of-set_same : (xs : List Priority) (i : ℕ) (p : Priority) → i < length xs → level_of (set xs i p) i ≡ rank p
level_of-set_same xs i p h = ap rank (get_or-set_same xs i p Background h)

pub level_of-set_other : (xs : List Priority) (i j : ℕ) (p : Priority) → j ≢ i → level_of (set xs i p) j ≡ level_of xs j
level_of-set_other xs i j p h = ap rank (get_or-set_other xs i j p Background h)

one_below : (m n : ℕ) → m < n → ◌≡◌ {A = ℕ} (cond (ltb m n) 1 0) 1
one_below m n h = grind (arith, common_steps)

none_below : (m n : ℕ) → n ≤ m → ◌≡◌ {A = ℕ} (cond (ltb m n) 1 0) 0
none_below m n h = grind (arith, common_steps)

-- a raise leaves one fewer below
pub below-set : (xs : List Priority) (i : ℕ) (p : Priority) → i < length xs → level_of xs i < rank p → below (rank p) (set xs i p) + 1 ≡ below (rank p) xs
below-set xs i p h low =
    let a : ◌≡◌ {A = ℕ} (cond (ltb (rank (get_or xs i Background)) (rank p)) 1 0) 1 = one_below _ _ low in
    let b : ◌≡◌ {A = ℕ} (cond (ltb (rank p) (rank p)) 1 0) 0 = none_below _ _ (omega arith) in
    omega (arith, sum_by-set (λ (q : Priority). cond (ltb (rank q) (rank p)) 1 0) xs i p Background h, a, b)

raised_at : (old new : List Priority) (t i : ℕ) (p : Priority) (P : Type 0) → t < length new → level_of new t < rank p
    → (i ≡ t → P) → (level_of (set new t p) i ≡ level_of new i → P) → P
raised_at old new t i p P h low same other =
    elim (cases_eq i t) [ inl e ↦ same e | inr n ↦ other (level_of-set_other new t i p n) ]

inside_push : (n t : ℕ) (stack : List ℕ) → t < n → All (λ i. i < n) stack → All (λ i. i < n) (stack ++ t ∷ [])
inside_push n t stack h a = grind (arith, elements)

pub raise_more : (edges : List TaskEdge) (task : ℕ) (p : Priority) (old new : List Priority) (stack stack' : List ℕ) (t : ℕ)
    → Raising edges task (rank p) old new stack stack' → length new ≡ length old → t < length new → level_of new t < rank p → HasEdge edges task t
    → Raising edges task (rank p) old (set new t p) stack (stack' ++ t ∷ [])
raise_more edges task p old new stack stack' t r same h low e = record {
  up = λ i. raised_at old new t i p (level_of old i ≤ level_of (set new t p) i) h low
      (λ q. subst (λ (j : ℕ). level_of old j ≤ level_of (set new t p) j) (sym q) (let u = r.up t in let w = level_of-set_same new t p h in omega (arith, u, w)))
      (λ q. let u = r.up i in omega (arith, u, q));
  raised = λ i l. raised_at old new t i p ((level_of (set new t p) i ≡ rank p) × Contains (stack' ++ t ∷ []) i × HasEdge edges task i) h low
      (λ q. subst (λ (j : ℕ). (level_of (set new t p) j ≡ rank p) × Contains (stack' ++ t ∷ []) j × HasEdge edges task j) (sym q)
      (level_of-set_same new t p h, Contains-push stack' t, e))
      (λ q. let m : level_of old i < level_of new i = omega (arith, q, l) in
      let w = r.raised i m in
      (q ∙ w.0, Contains-append_left stack' (t ∷ []) i w.1, w.2));
  kept = λ i c. Contains-append_left stack' (t ∷ []) i (r.kept i c);
  only = λ i c. elim (Contains-push_cases stack' t i c) [
    | inl d ↦ r.only i d
    | inr q ↦ inr (subst (λ (j : ℕ). HasEdge edges task j) q e)
  ];
  inside = inside_push (length old) t stack' (omega arith) r.inside;
  count = let u = r.count in let w = below-set new t p h low in let v = length_push stack' t in omega (arith, u, w, v);
}

pub up_by_set : (xs : List Priority) (t : ℕ) (p : Priority) → t < length xs → level_of xs t < rank p → (i : ℕ) → level_of xs i ≤ level_of (set xs t p) i
up_by_set xs t p h low i =
    elim (cases_eq i t) [
      | inl e ↦ subst (λ (j : ℕ). level_of xs j ≤ level_of (set xs t p) j) (sym e) (let w = level_of-set_same xs t p h in omega (arith, w))
      | inr n ↦ let w = level_of-set_other xs t i p n in omega (arith, w)
    ]

-- an edge on the chain is done, and so are the newer ones
pub done_more : (edges : List TaskEdge) (before newest : List (Option ℕ)) (task top k : ℕ) (xs ys : List Priority) → AreChained edges before newest
    → k < length edges → (edge_at edges k).from ≡ task → ((i : ℕ) → level_of xs i ≤ level_of ys i) → top ≤ level_of ys (edge_at edges k).to
    → ((j : ℕ) → j < length edges → (edge_at edges j).from ≡ task → suc k ≤ j → top ≤ level_of xs (edge_at edges j).to)
    → (j : ℕ) → j < length edges → (edge_at edges j).from ≡ task → end_of (get_or before k None) ≤ j → top ≤ level_of ys (edge_at edges j).to
done_more edges before newest task top k xs ys c h e up here later j hj ej past =
    elim (cases_eq j k) [
      | inl q ↦ subst (λ (m : ℕ). top ≤ level_of ys (edge_at edges m).to) (sym q) here
      | inr n ↦ elim (cases_lt j k) [
        | inl lt ↦ let w = c.next k j h lt (ej ∙ sym e) in absurd (omega (arith, w))
        | inr ge ↦ let l = later j hj ej (omega arith) in let u = up (edge_at edges j).to in omega (arith, l, u)
      ]
    ]
