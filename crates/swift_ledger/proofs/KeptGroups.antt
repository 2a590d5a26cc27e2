-- What is kept of one group once one more event is written.
use Rattle.swift_ledger.proofs.Prelude.{◌≡◌, ℕ, zero, suc, ◌+◌, ◌<◌, ◌≤◌, List, [], ◌∷◌, ◌++◌, length, drop, Bool, true, false, cond, refl, ap, sym, ◌∙◌, subst, inl, inr, arith, cases_lt, cases_Bool, cond-true, cond-false, leb-true, leb-false, true≢false, drop_all, length_push, min, leb, TaskId, Ending, GroupStage, GroupView, unfinished_of, with_child, with_ending, as_cancelled, handed_on, handed_after, closed_on, stage_of, GroupNotes, GroupFacts, no_facts, group_with, AreNotesOf, ended_with, has_any}
use Rattle.swift_groups.specs.declared.group.GroupStage.TheVariants.{Open as IsOpen}
use Rattle.swift_groups.specs.Groups.{opened_by as new_group}

after_more : (es : List (TaskId × Ending)) (a m : ℕ) → a < length es → handed_after (drop a es) m ≡ m + 1
after_more [] a m h = absurd (omega (arith, h))
after_more (x ∷ xs) zero m h = refl
after_more (x ∷ xs) (suc a) m h = after_more xs a m (omega (arith, h))

after_none : (es : List (TaskId × Ending)) (a m : ℕ) → length es ≤ a → handed_after (drop a es) m ≡ m
after_none es a m h = ap (λ (w : List (TaskId × Ending)). handed_after w m) (drop_all a es h)

handed_next : (es : List (TaskId × Ending)) (a h : ℕ) → h ≡ min a (length es) → handed_after (drop h es) h ≡ min (a + 1) (length es)
handed_next es a h e = elim (cases_lt a (length es)) [
  | inl lt ↦ (let at : h < length es = omega arith in let one = after_more es h h at in omega arith)
  | inr ge ↦ (let at : length es ≤ h = omega arith in let none = after_none es h h at in omega arith)
]

pub kept_next : (o : TaskId) (f : GroupFacts) (found : GroupView) (held : GroupNotes) → AreNotesOf o f found held → f.closed ≡ false
    → AreNotesOf o (record f { asked = f.asked + 1 }) (handed_on found) (record held { asked = held.asked + 1 })
kept_next o f found held k opened =
    let ended : found.ended ≡ f.endings = ap (λ (x : GroupView). x.ended) k.group in
    record {
      group = ap (λ (x : GroupView). record x { handed = (handed_on found).handed }) k.group;
      handed = λ c. ap (λ (es : List (TaskId × Ending)). handed_after (drop found.handed es) found.handed) ended ∙ handed_next f.endings f.asked found.handed (k.handed opened);
      asked = ap (λ (n : ℕ). n + 1) k.asked;
      ended = k.ended;
      closed = k.closed;
      named = k.named;
      children = k.children;
    }

pub stage_open : (b : Bool) (ts : List TaskId) → b ≡ false → stage_of b ts ≡ IsOpen
stage_open b ts h = ap (λ (x : Bool). stage_of x ts) h

pub stage_kept : (o : TaskId) (f : GroupFacts) (found : GroupView) (held : GroupNotes) → AreNotesOf o f found held → f.closed ≡ false → found.stage ≡ IsOpen
stage_kept o f found held k h = ap (λ (x : GroupView). x.stage) k.group ∙ stage_open f.closed (unfinished_of f.children f.endings) h

has_any-push : (ts : List TaskId) (t : TaskId) → has_any (ts ++ t ∷ []) ≡ true
has_any-push [] t = refl
has_any-push (u ∷ us) t = refl

pub kept_child : (o : TaskId) (f : GroupFacts) (found : GroupView) (held : GroupNotes) (t : TaskId) → AreNotesOf o f found held → f.closed ≡ false
    → AreNotesOf o (record f { children = f.children ++ t ∷ [] }) (with_child t found) (record held { has_children = true })
kept_child o f found held t k opened = record {
  group = ap (with_child t) k.group ∙ ap (λ (s : GroupStage). record (group_with o found.handed (record f { children = f.children ++ t ∷ [] })) { stage = s })
      (stage_open f.closed (unfinished_of f.children f.endings) opened ∙ sym (stage_open f.closed (unfinished_of (f.children ++ t ∷ []) f.endings) opened));
  handed = k.handed;
  asked = k.asked;
  ended = k.ended;
  closed = k.closed;
  named = k.named;
  children = sym (has_any-push f.children t);
}

pub kept_cancel : (o : TaskId) (f : GroupFacts) (found : GroupView) (held : GroupNotes) → AreNotesOf o f found held → AreNotesOf o (record f { named = true }) (as_cancelled found) (record held { is_named = true })
kept_cancel o f found held k = record { group = ap as_cancelled k.group; handed = k.handed; asked = k.asked; ended = k.ended; closed = k.closed; named = refl; children = k.children }

pub kept_close : (o : TaskId) (f : GroupFacts) (found : GroupView) (held : GroupNotes) → AreNotesOf o f found held → AreNotesOf o (record f { closed = true }) (closed_on found) (record held { is_closed = true })
kept_close o f found held k = record {
  group = ap closed_on k.group;
  handed = λ (c : true ≡ false). absurd (true≢false c);
  asked = k.asked;
  ended = k.ended;
  closed = refl;
  named = k.named;
  children = k.children;
}

ended_closed : (o : TaskId) (f : GroupFacts) (found : GroupView) (held : GroupNotes) (t : TaskId) (x : Ending) → AreNotesOf o f found held → held.is_closed ≡ true
    → AreNotesOf o (record f { endings = f.endings ++ (t, x) ∷ [] }) (closed_on (with_ending t x found)) (record held { ended = held.ended + 1 })
ended_closed o f found held t x k h =
    let closed : f.closed ≡ true = sym k.closed ∙ h in
    record {
      group = ap (λ (y : GroupView). closed_on (with_ending t x y)) k.group
          ∙ ap (λ (b : Bool). record (group_with o found.handed (record f { endings = f.endings ++ (t, x) ∷ [] })) { stage = stage_of b (unfinished_of f.children (f.endings ++ (t, x) ∷ [])) }) (sym closed);
      handed = λ (n : f.closed ≡ false). absurd (true≢false (sym closed ∙ n));
      asked = k.asked;
      ended = let l = length_push f.endings (t, x) in let e = k.ended in omega (arith, l, e);
      closed = k.closed;
      named = k.named;
      children = k.children;
    }

-- where the stage is that of an open group, it doesn't depend on the endings
ended_group : (o : TaskId) (f : GroupFacts) (found : GroupView) (held : GroupNotes) (t : TaskId) (x : Ending) (n : ℕ) → AreNotesOf o f found held → held.is_closed ≡ false
    → record (with_ending t x found) { handed = n } ≡ group_with o n (record f { endings = f.endings ++ (t, x) ∷ [] })
ended_group o f found held t x n k h =
    let closed : f.closed ≡ false = sym k.closed ∙ h in
    ap (λ (y : GroupView). record (with_ending t x y) { handed = n }) k.group
    ∙ ap (λ (s : GroupStage). record (group_with o n (record f { endings = f.endings ++ (t, x) ∷ [] })) { stage = s })
    (stage_open f.closed (unfinished_of f.children f.endings) closed ∙ sym (stage_open f.closed (unfinished_of f.children (f.endings ++ (t, x) ∷ [])) closed))

ended_kept : (o : TaskId) (f : GroupFacts) (found : GroupView) (held : GroupNotes) (t : TaskId) (x : Ending) → AreNotesOf o f found held → held.is_closed ≡ false → held.asked ≤ held.ended
    → AreNotesOf o (record f { endings = f.endings ++ (t, x) ∷ [] }) (with_ending t x found) (record held { ended = held.ended + 1 })
ended_kept o f found held t x k h le =
    let l = length_push f.endings (t, x) in let e = k.ended in let a = k.asked in
    record {
      group = ended_group o f found held t x found.handed k h;
      handed = λ n. let m = k.handed n in omega (arith, l, e, a, m, le);
      asked = k.asked;
      ended = omega (arith, l, e);
      closed = k.closed;
      named = k.named;
      children = k.children;
    }

ended_handed : (o : TaskId) (f : GroupFacts) (found : GroupView) (held : GroupNotes) (t : TaskId) (x : Ending) → AreNotesOf o f found held → held.is_closed ≡ false → held.ended < held.asked
    → AreNotesOf o (record f { endings = f.endings ++ (t, x) ∷ [] }) (handed_on (with_ending t x found)) (record held { ended = held.ended + 1 })
ended_handed o f found held t x k h lt =
    let l = length_push f.endings (t, x) in let e = k.ended in let a = k.asked in
    let ended : found.ended ≡ f.endings = ap (λ (y : GroupView). y.ended) k.group in
    let m = k.handed (sym k.closed ∙ h) in
    let more : handed_after (drop found.handed (f.endings ++ (t, x) ∷ [])) found.handed ≡ found.handed + 1 =
    after_more (f.endings ++ (t, x) ∷ []) found.handed found.handed (omega (arith, l, e, a, m, lt)) in
    let all : (handed_on (with_ending t x found)).handed ≡ found.handed + 1 =
    ap (λ (es : List (TaskId × Ending)). handed_after (drop found.handed (es ++ (t, x) ∷ [])) found.handed) ended ∙ more in
    record {
      group = ended_group o f found held t x (handed_on (with_ending t x found)).handed k h;
      handed = λ n. all ∙ (let goal : found.handed + 1 ≡ min f.asked (length (f.endings ++ (t, x) ∷ [])) = omega (arith, l, e, a, m, lt) in goal);
      asked = k.asked;
      ended = omega (arith, l, e);
      closed = k.closed;
      named = k.named;
      children = k.children;
    }

pub kept_end : (o : TaskId) (f : GroupFacts) (found : GroupView) (held : GroupNotes) (t : TaskId) (x : Ending) → AreNotesOf o f found held
    → AreNotesOf o (record f { endings = f.endings ++ (t, x) ∷ [] }) (ended_with held t x found) (record held { ended = held.ended + 1 })
kept_end o f found held t x k =
    let f' : GroupFacts = record f { endings = f.endings ++ (t, x) ∷ [] } in
    let held' : GroupNotes = record held { ended = held.ended + 1 } in
    let after : GroupView = with_ending t x found in
    elim (cases_Bool held.is_closed) [
      | inl y ↦ subst (λ (v : GroupView). AreNotesOf o f' v held') (sym (cond-true held.is_closed (closed_on after) (cond (leb held.asked held.ended) after (handed_on after)) y)) (ended_closed o f found held t x k y)
      | inr n ↦ subst (λ (v : GroupView). AreNotesOf o f' v held') (sym (cond-false held.is_closed (closed_on after) (cond (leb held.asked held.ended) after (handed_on after)) n))
          (elim (cases_Bool (leb held.asked held.ended)) [
            | inl le ↦ subst (λ (v : GroupView). AreNotesOf o f' v held') (sym (cond-true (leb held.asked held.ended) after (handed_on after) le)) (ended_kept o f found held t x k n (leb-true held.asked held.ended le))
            | inr gt ↦ subst (λ (v : GroupView). AreNotesOf o f' v held') (sym (cond-false (leb held.asked held.ended) after (handed_on after) gt)) (ended_handed o f found held t x k n (leb-false held.asked held.ended gt))
          ])
    ]

pub kept_new : (o : TaskId) → AreNotesOf o no_facts (new_group o) (record { asked = 0; ended = 0; is_closed = false; is_named = false; has_children = false })
kept_new o = record { group = refl; handed = λ c. refl; asked = refl; ended = refl; closed = refl; named = refl; children = refl }
