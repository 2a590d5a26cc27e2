-- Levels and edges after a push.
use Rattle.swift_escalation.proofs.Prelude.{◌≡◌, ℕ, zero, suc, ◌≤◌, ◌<◌, ◌⊎◌, List, Option, None, [], ◌∷◌, ◌++◌, length, get_or, refl, ap, sym, subst, ◌∙◌, inl, inr, arith, get_or_append_left, get_or_push, length_push, cases_lt, cond_below, cond_above, rank, level_of, higher, edge_at, end_of, AreChained, IsSettled, IsSettledBut, Priority, Background, TaskEdge}

pub level_of-push_old : (xs : List Priority) (p : Priority) (i : ℕ) → i < length xs → level_of (xs ++ p ∷ []) i ≡ level_of xs i
level_of-push_old xs p i h = ap rank (get_or_append_left xs (p ∷ []) Background i h)

pub level_of-push_new : (xs : List Priority) (p : Priority) → level_of (xs ++ p ∷ []) (length xs) ≡ rank p
level_of-push_new xs p = ap rank (get_or_push xs p Background (length xs) refl)

pub edge_at-push_old : (es : List TaskEdge) (e : TaskEdge) (k : ℕ) → k < length es → edge_at (es ++ e ∷ []) k ≡ edge_at es k
edge_at-push_old es e k h = get_or_append_left es (e ∷ []) _ k h

pub edge_at-push_new : (es : List TaskEdge) (e : TaskEdge) (k : ℕ) → length es ≡ k → edge_at (es ++ e ∷ []) k ≡ e
edge_at-push_new es e k h = get_or_push es e _ k h

-- the more urgent of two priorities is the one or the other, and no less than either
pub higher_cases : (p q : Priority) → ((higher p q ≡ p) × (rank q ≤ rank p)) ⊎ ((higher p q ≡ q) × (rank p ≤ rank q))
higher_cases p q = elim (cases_lt (rank p) (rank q)) [
  | inl lt ↦ inr (sym (cond_below (rank p) (rank q) q p lt), omega (arith, lt))
  | inr ge ↦ inl (sym (cond_above (rank p) (rank q) q p p ge refl), ge)
]

pub higher_first : (p q : Priority) → rank p ≤ rank (higher p q)
higher_first p q = elim (higher_cases p q) [
  | inl w ↦ let e = ap rank w.0 in omega (arith, e)
  | inr w ↦ let e = ap rank w.0 in let h = w.1 in omega (arith, e, h)
]

pub higher_second : (p q : Priority) → rank q ≤ rank (higher p q)
higher_second p q = elim (higher_cases p q) [
  | inl w ↦ let e = ap rank w.0 in let h = w.1 in omega (arith, e, h)
  | inr w ↦ let e = ap rank w.0 in omega (arith, e)
]

-- each edge still leads up after a task and an edge to it were added, of the level of the edge's start at least
pub settled_under : (es : List TaskEdge) (xs : List Priority) (a : ℕ) (p : Priority) → level_of xs a ≤ rank p → IsSettled es xs → ((k : ℕ) → k < length es → (edge_at es k).from < length xs)
    → ((k : ℕ) → k < length es → (edge_at es k).to < length xs) → a < length xs
    → IsSettled (es ++ (record { from = a; to = length xs }) ∷ []) (xs ++ p ∷ [])
settled_under es xs a p up s from to h k hk =
    let e : TaskEdge = record { from = a; to = length xs } in
    let ys : List Priority = xs ++ p ∷ [] in
    let n = length_push es e in
    elim (cases_lt k (length es)) [
      | inl lt ↦ subst (λ (d : TaskEdge). level_of ys d.from ≤ level_of ys d.to) (sym (edge_at-push_old es e k lt))
          (let f = level_of-push_old xs p (edge_at es k).from (from k lt) in let t = level_of-push_old xs p (edge_at es k).to (to k lt) in let u = s k lt in omega (arith, f, t, u))
      | inr ge ↦ subst (λ (d : TaskEdge). level_of ys d.from ≤ level_of ys d.to) (sym (edge_at-push_new es e k (omega (arith, n, ge, hk))))
          (let f = level_of-push_old xs p a h in let t = level_of-push_new xs p in omega (arith, f, t, up))
    ]

-- a default that is pushed is read as before
get_or-push_default : {X : Type 0} (xs : List X) (d : X) (i : ℕ) → get_or (xs ++ d ∷ []) i d ≡ get_or xs i d
get_or-push_default [] d zero = refl
get_or-push_default [] d (suc i) = refl
get_or-push_default (x ∷ xs) d zero = refl
get_or-push_default (x ∷ xs) d (suc i) = get_or-push_default xs d i

-- a new task has no edge
pub chained_push : (es : List TaskEdge) (before newest : List (Option ℕ)) → AreChained es before newest → AreChained es before (newest ++ None ∷ [])
chained_push es before newest h =
    let none : Option ℕ = None in
    let longer = length_push newest none in
    let same : (a : ℕ) → get_or (newest ++ None ∷ []) a None ≡ get_or newest a None = λ a. get_or-push_default newest none a in
    record {
      same = h.same;
      from = λ k l. let w = h.from k l in omega (arith, w, longer);
      to = λ k l. let w = h.to k l in omega (arith, w, longer);
      older = h.older;
      next = h.next;
      same_task = h.same_task;
      first = λ j l. subst (λ (o : Option ℕ). j < end_of o) (sym (same (edge_at es j).from)) (h.first j l);
      within = λ a. subst (λ (o : Option ℕ). end_of o ≤ length es) (sym (same a)) (h.within a);
      of_task = λ a b e. h.of_task a b (sym (same a) ∙ e);
    }

-- and changes no level
pub settled_push : (es : List TaskEdge) (xs : List Priority) (p : Priority) → IsSettled es xs → ((k : ℕ) → k < length es → (edge_at es k).from < length xs) → ((k : ℕ) → k < length es → (edge_at es k).to < length xs)
    → IsSettled es (xs ++ p ∷ [])
settled_push es xs p s from to k h =
    let f = level_of-push_old xs p (edge_at es k).from (from k h) in let t = level_of-push_old xs p (edge_at es k).to (to k h) in let u = s k h in omega (arith, f, t, u)

-- after an edge was added, only it may lead down
pub open_push : (es : List TaskEdge) (xs : List Priority) (a b top : ℕ) → IsSettled es xs → level_of xs a ≡ top → IsSettledBut (es ++ (record { from = a; to = b }) ∷ []) xs b top
open_push es xs a b top s level k h =
    let e : TaskEdge = record { from = a; to = b } in
    let P : TaskEdge → Type 0 = λ d. (level_of xs d.from ≤ level_of xs d.to) ⊎ ((d.to ≡ b) × (level_of xs d.from ≤ top)) in
    elim (cases_lt k (length es)) [
      | inl lt ↦ subst P (sym (edge_at-push_old es e k lt)) (inl (s k lt))
      | inr ge ↦ subst P (sym (edge_at-push_new es e k (omega (arith, length_push es e, ge, h)))) (inr (refl, omega (arith, level)))
    ]
