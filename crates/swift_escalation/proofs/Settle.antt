-- What one turn of the settling leaves.
use Rattle.swift_escalation.proofs.Prelude.{◌≡◌, ℕ, suc, ◌+◌, ◌≤◌, ◌<◌, ◌⊎◌, List, [], ◌∷◌, ◌++◌, length, set, refl, sym, subst, ◌∙◌, inl, inr, arith, add-one, length-set, Contains-push, Contains-push_cases, Contains-append_left, elements, cases_eq, cases_lt, Contains, All, rank, level_of, edge_at, HasEdge, Walk, HasWalk, Raising, Settling, IsOpen, Priority, TaskEdge}
use Rattle.swift_escalation.proofs.Raise.{level_of-set_same, level_of-set_other, up_by_set}

pub settling_start : (edges : List TaskEdge) (start : ℕ) (p : Priority) (xs : List Priority) → start < length xs → level_of xs start < rank p
    → Settling edges start (rank p) xs (set xs start p)
settling_start edges start p xs h low = record {
  up = up_by_set xs start p h low;
  raised = λ i l. elim (cases_eq i start) [
    | inl e ↦ subst (λ (j : ℕ). (level_of (set xs start p) j ≡ rank p) × HasWalk edges start j) (sym e) (level_of-set_same xs start p h, (0, refl))
    | inr n ↦ let w = level_of-set_other xs start i p n in absurd (omega (arith, w, l))
  ];
}

-- an edge after the start was raised: a and b are its ends
start_edge : (start a b : ℕ) (p : Priority) (xs : List Priority) (stack : List ℕ) → start < length xs → level_of xs start < rank p → Contains stack start
    → (level_of xs a ≤ level_of xs b) ⊎ ((b ≡ start) × (level_of xs a ≤ rank p))
    → (level_of (set xs start p) a ≤ level_of (set xs start p) b) ⊎ ((level_of (set xs start p) a ≤ rank p) × Contains stack a)
start_edge start a b p xs stack h low has was =
    elim (cases_eq a start) [
      | inl e ↦ inr (subst (λ (j : ℕ). (level_of (set xs start p) j ≤ rank p) × Contains stack j) (sym e) (let w = level_of-set_same xs start p h in (omega (arith, w)), has))
      | inr n ↦ let w = level_of-set_other xs start a p n in elim was [
        | inl le ↦ let u = up_by_set xs start p h low b in inl (omega (arith, w, u, le))
        | inr d ↦ inl (subst (λ (j : ℕ). level_of (set xs start p) a ≤ level_of (set xs start p) j) (sym d.0) (let v = level_of-set_same xs start p h in let g = d.1 in omega (arith, w, v, g)))
      ]
    ]

one_start : (edges : List TaskEdge) (start i : ℕ) → Contains ([] ++ start ∷ []) i → HasWalk edges start i
one_start edges start i c =
    elim (Contains-push_cases [] start i c) [
      | inl d ↦ absurd (let g = d.1 in omega (arith, g))
      | inr e ↦ (0, e)
    ]

one_inside : (n start : ℕ) → start < n → All (λ i. i < n) ([] ++ start ∷ [])
one_inside n start h = grind (arith, elements)

pub todo_start : (edges : List TaskEdge) (start : ℕ) (p : Priority) (xs : List Priority) (stack : List ℕ) → start < length xs → level_of xs start < rank p → stack ≡ [] ++ start ∷ []
    → ((k : ℕ) → k < length edges → (level_of xs (edge_at edges k).from ≤ level_of xs (edge_at edges k).to) ⊎ (((edge_at edges k).to ≡ start) × (level_of xs (edge_at edges k).from ≤ rank p)))
    → IsOpen edges start (rank p) (set xs start p) stack
todo_start edges start p xs stack h low is was =
    subst (λ (s : List ℕ). IsOpen edges start (rank p) (set xs start p) s) (sym is) (record {
      edges_up = λ k hk. start_edge start (edge_at edges k).from (edge_at edges k).to p xs ([] ++ start ∷ []) h low (Contains-push [] start) (was k hk);
      reached = one_start edges start;
      inside = let w = length-set xs start p in one_inside (length (set xs start p)) start (omega (arith, w, h));
    })

pub settling_more : (edges : List TaskEdge) (start task top : ℕ) (base xs ys : List Priority) (stack stack' : List ℕ)
    → Settling edges start top base xs → HasWalk edges start task → Raising edges task top xs ys stack stack' → Settling edges start top base ys
settling_more edges start task top base xs ys stack stack' s w r = record {
  up = λ i. let a = s.up i in let b = r.up i in omega (arith, a, b);
  raised = λ i l. elim (cases_lt (level_of xs i) (level_of ys i)) [
    | inl lt ↦ let g = r.raised i lt in (g.0, (w.0 + 1, step w.0 start task i edges w.1 g.2))
    | inr ge ↦ let b = r.up i in let e : level_of ys i ≡ level_of xs i = omega (arith, b, ge) in let g = s.raised i (omega (arith, l, e)) in (e ∙ g.0, g.1)
  ];
}
  where
    step : (n start task i : ℕ) (edges : List TaskEdge) → Walk edges n start task → HasEdge edges task i → Walk edges (n + 1) start i
    step n start task i edges w e = rw add-one (task, w, e)

more_edge : (edges : List TaskEdge) (task top a b : ℕ) (xs ys : List Priority) (stack stack' : List ℕ)
    → Raising edges task top xs ys stack stack' → (a ≡ task → top ≤ level_of ys b)
    → (level_of xs a ≤ level_of xs b) ⊎ ((level_of xs a ≤ top) × Contains (stack ++ task ∷ []) a)
    → (level_of ys a ≤ level_of ys b) ⊎ ((level_of ys a ≤ top) × Contains stack' a)
more_edge edges task top a b xs ys stack stack' r done was =
    elim (cases_lt (level_of xs a) (level_of ys a)) [
      | inl lt ↦ let g = r.raised a lt in let e = g.0 in inr (omega (arith, e), g.1)
      | inr ge ↦ elim was [
        | inl le ↦ let u = r.up b in inl (omega (arith, u, le, ge))
        | inr d ↦ let m = d.0 in elim (Contains-push_cases stack task a d.1) [
          | inl c ↦ inr (omega (arith, m, ge), r.kept a c)
          | inr e ↦ let t = done (sym e) in inl (omega (arith, t, m, ge))
        ]
      ]
    ]

more_reached : (edges : List TaskEdge) (start task i : ℕ) → HasWalk edges start task → HasEdge edges task i → HasWalk edges start i
more_reached edges start task i w e = (suc w.0, (task, w.1, e))

pub todo_more : (edges : List TaskEdge) (start task top : ℕ) (xs ys : List Priority) (stack stack' : List ℕ)
    → IsOpen edges start top xs (stack ++ task ∷ []) → Raising edges task top xs ys stack stack' → length ys ≡ length xs
    → ((j : ℕ) → j < length edges → (edge_at edges j).from ≡ task → top ≤ level_of ys (edge_at edges j).to)
    → IsOpen edges start top ys stack'
todo_more edges start task top xs ys stack stack' o r same done = record {
  edges_up = λ k h. more_edge edges task top (edge_at edges k).from (edge_at edges k).to xs ys stack stack' r (done k h) (o.edges_up k h);
  reached = λ i c. elim (r.only i c) [
    | inl d ↦ o.reached i (Contains-append_left stack (task ∷ []) i d)
    | inr e ↦ more_reached edges start task i (o.reached task (Contains-push stack task)) e
  ];
  inside = subst (λ (n : ℕ). All (λ i. i < n) stack') (sym same) r.inside;
}
