-- The marks while callers are marked, and after it.
use Rattle.script_compiler.proofs.Prelude.{◌≡◌, ℕ, ◌<◌, ◌⊎◌, List, [], ◌∷◌, ◌++◌, Bool, false, true, length, get_or, refl, ap, sym, subst, ◌∙◌, inl, inr, Contains-push, Contains-push_cases, Contains-append_left, get_or_past, cases_lt, both_ways, Contains, Has, IsMarked, IsPending, count_of, MarkingAll, CallsTo, IsClosed, IsClosedButPending, ArePendingMarked, Spreading, Reaching, itself, by, MethodLists, Marks}

-- what is marked is a method
pub marked_within : (xs : List Bool) (m : ℕ) → get_or xs m false ≡ true → m < length xs
marked_within xs m h = elim (cases_lt m (length xs)) [
  | inl l ↦ l
  | inr past ↦ absurd (both_ways (get_or xs m false) (get_or_past xs m false past) h)
]

-- Some of what leads to a marked method was marked, and what is still to do is pending.
pub record IsSpreading (callers : MethodLists) (old new : Marks) : Type 0 where
  pub count : count_of new ≡ count_of old
  pub kept : (m : ℕ) → IsMarked old m → IsMarked new m
  pub only : (m : ℕ) → IsMarked new m → (k : ℕ) × IsMarked old k × CallsTo callers m k
  pub closed : IsClosedButPending callers new
  pub pending : ArePendingMarked new

pub spreading_begins : (callers : MethodLists) (s : Marks) → IsClosedButPending callers s → ArePendingMarked s → IsSpreading callers s s
spreading_begins callers s closed pending = record {
  count = refl;
  kept = λ m h. h;
  only = λ m h. (m, h, itself);
  closed = closed;
  pending = pending;
}

-- `was` are the marks before a method was taken from the pending ones, `taken` those after it, `new` those once its callers were marked
module _ (callers : MethodLists) (old was taken new : Marks) (t : ℕ) (s : IsSpreading callers old was)
    (same : taken.marked.items ≡ was.marked.items) (pending : was.pending.items ≡ taken.pending.items ++ t ∷ [])
    (all : MarkingAll (Has callers t) taken new) where
  to_taken : (m : ℕ) → IsMarked was m → IsMarked taken m
  to_taken m h = ap (λ xs. get_or xs m false) same ∙ h

  from_taken : (m : ℕ) → IsMarked taken m → IsMarked was m
  from_taken m h = sym (ap (λ xs. get_or xs m false) same) ∙ h

  is_pending : (m : ℕ) → Contains (taken.pending.items ++ t ∷ []) m → IsPending was m
  is_pending m h = subst (λ ps. Contains ps m) (sym pending) h

  t_marked : IsMarked was t
  t_marked = s.pending t (is_pending t (Contains-push taken.pending.items t))

  go_only : (m : ℕ) → IsMarked new m → (k : ℕ) × IsMarked old k × CallsTo callers m k
  go_only m h = elim (all.marking.only m h) [
    | inl w ↦ s.only m (from_taken m w)
    | inr has ↦ let k = s.only t t_marked in (k.0, k.1, by has k.2)
  ]

  go_closed : (k m : ℕ) → Has callers k m → IsMarked new k → IsMarked new m ⊎ IsPending new k
  go_closed k m has marked = elim (all.marking.added k marked) [
    | inr p ↦ inr p
    | inl w ↦ elim (s.closed k m has (from_taken k w)) [
      | inl x ↦ inl (all.marking.kept m (to_taken m x))
      | inr p ↦ elim (Contains-push_cases taken.pending.items t k (subst (λ ps. Contains ps k) pending p)) [
        | inl q ↦ inr (all.marking.still_pending k q)
        | inr e ↦ inl (all.all m (subst (λ i. Has callers i m) (sym e) has))
      ]
    ]
  ]

  go_pending : (m : ℕ) → IsPending new m → IsMarked new m
  go_pending m h = elim (all.marking.marked m h) [
    | inl p ↦ all.marking.kept m (to_taken m (s.pending m (is_pending m (Contains-append_left taken.pending.items (t ∷ []) m p))))
    | inr x ↦ x
  ]

pub spreading_goes_on : (callers : MethodLists) (old was taken new : Marks) (t : ℕ) → IsSpreading callers old was
    → taken.marked.items ≡ was.marked.items → was.pending.items ≡ taken.pending.items ++ t ∷ []
    → MarkingAll (Has callers t) taken new → IsSpreading callers old new
spreading_goes_on callers old was taken new t s same pending all = record {
  count = all.marking.count ∙ ap length same ∙ s.count;
  kept = λ m h. all.marking.kept m (to_taken callers old was taken new t s same pending all m (s.kept m h));
  only = go_only callers old was taken new t s same pending all;
  closed = go_closed callers old was taken new t s same pending all;
  pending = go_pending callers old was taken new t s same pending all;
}

-- the method that is taken is one of those that can be marked
pub taken_within : (callers : MethodLists) (old was taken : Marks) (t : ℕ) → IsSpreading callers old was
    → was.pending.items ≡ taken.pending.items ++ t ∷ [] → t < count_of was
taken_within callers old was taken t s pending =
    marked_within was.marked.items t (s.pending t (subst (λ ps. Contains ps t) (sym pending) (Contains-push taken.pending.items t)))

module _ (callers : MethodLists) (is_in : ℕ → Type 0) (old some new : Marks) (marked : MarkingAll is_in old some) where
  -- what leads to a marked method was marked before
  closed_under : IsClosed callers old → {m k : ℕ} → CallsTo callers m k → IsMarked old k → IsMarked old m
  closed_under closed itself h = h
  closed_under closed (by {k = j} has c) h = closed j _ has (closed_under closed c h)

  pub reaching : IsClosed callers old → Spreading callers some new → Reaching callers is_in old new
  reaching closed s = record {
    count = s.count ∙ marked.marking.count;
    kept = λ m h. s.kept m (marked.marking.kept m h);
    all = λ m h. s.kept m (marked.all m h);
    only = λ m h. let k = s.only m h in elim (marked.marking.only k.0 k.1) [
      | inl w ↦ inl (closed_under closed k.2 w)
      | inr i ↦ inr (k.0, i, k.2)
    ];
    closed = s.closed;
    none_pending = s.none_pending;
  }
