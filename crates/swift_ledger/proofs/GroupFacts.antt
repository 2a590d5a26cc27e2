-- What a log says of a group once one more event is written.
use Rattle.swift_ledger.proofs.Prelude.{◌≡◌, ℕ, ◌+◌, List, [], ◌∷◌, ◌++◌, Bool, true, false, ◌||◌, ◌&&◌, cond, eqb, refl, ap, sym, ◌∙◌, inl, inr, arith, cases_eq, cases_Bool, eq-eqb, ne_eqb, append-nil, filter_map, cons_option, TaskId, Ending, Priority, is_among, Event, Root, Begin, Apply, Free, Open, Child, Skip, CancelTask, CancelGroup, Wait, Next, Close, End, Give, Origin, Life, task_of, events_of, life_of, lived, origin_in, opened_by, child_in, children_of, ending_among, endings_of, asks, asked_of, closes, is_closed, names_group, is_named_group, parent_of, parent_by, opened_by-push_yes, opened_by-push_no, asked_of-push, asked_of-push_no, is_closed-push, is_closed-push_no, is_named_group-push, is_named_group-push_no, children_of-push, children_of-push_none, parent_of-push, parent_of-push_other, parent_of-push_child, life_of-push_same, unborn_without, endings_of-push_kept, endings_of-push_child, is_among-push, is_among-by, facts_of, FitsGroups, is_child_of, IsWellFormed, CanNote}
use Rattle.std.proofs.Common.{Option, None, Some}
use Rattle.swift_ledger.proofs.FormLemmas.{made_few}

-- each part by itself
facts-are : (o g : ℕ) (log : List Event) (c : List TaskId) (n : List (TaskId × Ending)) (a : ℕ) (x y : Bool)
    → children_of o g log ≡ c → endings_of o g log ≡ n → asked_of o g log ≡ a → is_closed o g log ≡ x → is_named_group o g log ≡ y
    → facts_of o g log ≡ record { children = c; endings = n; asked = a; closed = x; named = y }
facts-are o g log c n a x y hc hn ha hx hy = cc

endings-same : (o g : ℕ) (log : List Event) (e : Event) → child_in o g e ≡ None → ending_among (children_of o g log) e ≡ None → endings_of o g (log ++ e ∷ []) ≡ endings_of o g log
endings-same o g log e h k =
    endings_of-push_kept o g log e (children_of-push_none o g log e h)
    ∙ ap (λ (v : Option (TaskId × Ending)). endings_of o g log ++ cons_option v []) k ∙ append-nil (endings_of o g log)

-- an event that says nothing of the group
pub facts-quiet : (o g : ℕ) (log : List Event) (e : Event) → child_in o g e ≡ None → ending_among (children_of o g log) e ≡ None → asks o g e ≡ false → closes o g e ≡ false → names_group o g e ≡ false
    → facts_of o g (log ++ e ∷ []) ≡ facts_of o g log
facts-quiet o g log e hc hn ha hx hy =
    facts-are o g (log ++ e ∷ []) _ _ _ _ _ (children_of-push_none o g log e hc) (endings-same o g log e hc hn) (asked_of-push_no o g log e ha) (is_closed-push_no o g log e hx) (is_named_group-push_no o g log e hy)

-- a result is asked for
pub facts-next : (o g : ℕ) (log : List Event) (u : TaskId) (h : ℕ) (b : Bool) → (eqb u.0 o && eqb h g) ≡ b
    → facts_of o g (log ++ Next u h ∷ []) ≡ record (facts_of o g log) { asked = asked_of o g log + cond b 1 0 }
facts-next o g log u h b test =
    let e : Event = Next u h in
    facts-are o g (log ++ e ∷ []) _ _ _ _ _ (children_of-push_none o g log e refl) (endings-same o g log e refl refl)
    (asked_of-push o g log e ∙ ap (λ (x : Bool). asked_of o g log + cond x 1 0) test)
    (is_closed-push_no o g log e refl) (is_named_group-push_no o g log e refl)

-- a group is closed
pub facts-close : (o g : ℕ) (log : List Event) (u : TaskId) (h : ℕ) (b : Bool) → (eqb u.0 o && eqb h g) ≡ b
    → facts_of o g (log ++ Close u h ∷ []) ≡ record (facts_of o g log) { closed = is_closed o g log || b }
facts-close o g log u h b test =
    let e : Event = Close u h in
    facts-are o g (log ++ e ∷ []) _ _ _ _ _ (children_of-push_none o g log e refl) (endings-same o g log e refl refl) (asked_of-push_no o g log e refl)
    (is_closed-push o g log e ∙ ap (λ (x : Bool). is_closed o g log || x) test)
    (is_named_group-push_no o g log e refl)

-- a group is cancelled
pub facts-cancel : (o g : ℕ) (log : List Event) (u : TaskId) (h : ℕ) (b : Bool) → (eqb u.0 o && eqb h g) ≡ b
    → facts_of o g (log ++ CancelGroup u h ∷ []) ≡ record (facts_of o g log) { named = is_named_group o g log || b }
facts-cancel o g log u h b test =
    let e : Event = CancelGroup u h in
    facts-are o g (log ++ e ∷ []) _ _ _ _ _ (children_of-push_none o g log e refl) (endings-same o g log e refl refl) (asked_of-push_no o g log e refl)
    (is_closed-push_no o g log e refl)
    (is_named_group-push o g log e ∙ ap (λ (x : Bool). is_named_group o g log || x) test)

-- a child is added
pub facts-child : (o g : ℕ) (log : List Event) (t u : TaskId) (h : ℕ) (p : Priority) (b : Bool) → events_of t.0 log ≡ [] → (eqb u.0 o && eqb h g) ≡ b
    → facts_of o g (log ++ Child t u h p ∷ []) ≡ record (facts_of o g log) { children = children_of o g log ++ cons_option (cond b (Some t) None) [] }
facts-child o g log t u h p b new test =
    let e : Event = Child t u h p in
    facts-are o g (log ++ e ∷ []) _ _ _ _ _
    (children_of-push o g log e ∙ ap (λ (x : Bool). children_of o g log ++ cons_option (cond x (Some t) None) []) test)
    (endings_of-push_child o g log t u h p new) (asked_of-push_no o g log e refl) (is_closed-push_no o g log e refl) (is_named_group-push_no o g log e refl)

-- a task has ended
pub facts-end : (o g : ℕ) (log : List Event) (t : TaskId) (ending : Ending) (b : Bool) → is_among (children_of o g log) t ≡ b
    → facts_of o g (log ++ End t ending ∷ []) ≡ record (facts_of o g log) { endings = endings_of o g log ++ cons_option (cond b (Some (t, ending)) None) [] }
facts-end o g log t ending b test =
    let e : Event = End t ending in
    facts-are o g (log ++ e ∷ []) _ _ _ _ _ (children_of-push_none o g log e refl)
    (endings_of-push_kept o g log e (children_of-push_none o g log e refl)
    ∙ ap (λ (x : Bool). endings_of o g log ++ cons_option (cond x (Some (t, ending)) None) []) test)
    (asked_of-push_no o g log e refl) (is_closed-push_no o g log e refl) (is_named_group-push_no o g log e refl)

-- how many groups a task has opened
pub opened-own : (log : List Event) (o : TaskId) (g : ℕ) → opened_by o.0 (log ++ Open o g ∷ []) ≡ opened_by o.0 log + 1
opened-own log o g = opened_by-push_yes o.0 log (Open o g) (eq-eqb o.0 o.0 refl)

pub opened-other : (log : List Event) (o : TaskId) (g u : ℕ) → (o.0 ≡ u → ⊥) → opened_by u (log ++ Open o g ∷ []) ≡ opened_by u log
opened-other log o g u h = opened_by-push_no u log (Open o g) (ne_eqb o.0 u h)

-- whether a task is a child of a group is told by its parent
abbrev pub AreParents : List Event → Type 0
AreParents log = (t : TaskId) (o g : ℕ) → is_among (children_of o g log) t ≡ is_child_of o g (parent_of t.0 log)

or_false : (b : Bool) → b || false ≡ b
or_false true = refl
or_false false = refl

among-other : (cs : List TaskId) (o g : ℕ) (e : Event) (t : TaskId) → (task_of e ≡ t.0 → ⊥) → is_among (cs ++ filter_map (child_in o g) (e ∷ [])) t ≡ is_among cs t
among-other cs o g (Child u owner group p) t h = elim (cases_Bool (eqb owner.0 o && eqb group g)) [
  | inl y ↦
      ap (λ (x : Bool). is_among (cs ++ cons_option (cond x (Some u) None) []) t) y
      ∙ is_among-push cs u t ∙ ap (λ (x : Bool). is_among cs t || x) (ne_eqb u.0 t.0 h) ∙ or_false (is_among cs t)
  | inr n ↦
      ap (λ (x : Bool). is_among (cs ++ cons_option (cond x (Some u) None) []) t) n
      ∙ ap (λ (v : List TaskId). is_among v t) (append-nil cs)
]
among-other cs o g _ t h = ap (λ (v : List TaskId). is_among v t) (append-nil cs)

-- a task that was not made is nobody's child
not-among : (log : List Event) (t u : TaskId) (o g : ℕ) → AreParents log → u.0 ≡ t.0 → (life_of u.0 log).origin ≡ None → is_among (children_of o g log) t ≡ false
not-among log t u o g old same h = sym (is_among-by (children_of o g log) u t same) ∙ old u o g ∙ ap (λ (x : Option Origin). is_child_of o g (parent_by x)) h

origin-none : (t : ℕ) (log : List Event) → events_of t log ≡ [] → (life_of t log).origin ≡ None
origin-none t log h = ap (λ (l : Life). l.origin) (unborn_without t log h)

-- an event that makes no task
quiet : (log : List Event) (e : Event) (t : TaskId) (o g : ℕ) → AreParents log → child_in o g e ≡ None → origin_in e ≡ None
    → is_among (children_of o g (log ++ e ∷ [])) t ≡ is_child_of o g (parent_of t.0 (log ++ e ∷ []))
quiet log e t o g old none says =
    ap (λ (v : List TaskId). is_among v t) (children_of-push_none o g log e none) ∙ old t o g ∙ sym (ap (is_child_of o g) (parent_of-push t.0 log e says))

-- an event of another task
other : (log : List Event) (e : Event) (t : TaskId) (o g : ℕ) → AreParents log → (task_of e ≡ t.0 → ⊥)
    → is_among (children_of o g (log ++ e ∷ [])) t ≡ is_child_of o g (parent_of t.0 (log ++ e ∷ []))
other log e t o g old h =
    ap (λ (v : List TaskId). is_among v t) (children_of-push o g log e) ∙ among-other (children_of o g log) o g e t h
    ∙ old t o g ∙ sym (ap (is_child_of o g) (parent_of-push_other t.0 log e h))

-- the task is made, but not as a child
made-free : (log : List Event) (e : Event) (u t : TaskId) (o g : ℕ) → AreParents log → child_in o g e ≡ None → task_of e ≡ u.0 → parent_by (lived (life_of u.0 log) e).origin ≡ None → (life_of u.0 log).origin ≡ None → u.0 ≡ t.0
    → is_among (children_of o g (log ++ e ∷ [])) t ≡ is_child_of o g (parent_of t.0 (log ++ e ∷ []))
made-free log e u t o g old none own says new same =
    ap (λ (v : List TaskId). is_among v t) (children_of-push_none o g log e none)
    ∙ not-among log t u o g old same new
    ∙ sym (ap (λ (n : ℕ). is_child_of o g (parent_of n (log ++ e ∷ []))) (sym same)
    ∙ ap (λ (l : Life). is_child_of o g (parent_by l.origin)) (life_of-push_same u.0 log e own)
    ∙ ap (is_child_of o g) says)

made-child : (log : List Event) (u owner : TaskId) (group : ℕ) (p : Priority) (t : TaskId) (o g : ℕ) → AreParents log → events_of u.0 log ≡ [] → u.0 ≡ t.0
    → is_among (children_of o g (log ++ Child u owner group p ∷ [])) t ≡ is_child_of o g (parent_of t.0 (log ++ Child u owner group p ∷ []))
made-child log u owner group p t o g old new same =
    let before : is_among (children_of o g log) t ≡ false = not-among log t u o g old same (origin-none u.0 log new) in
    let after : parent_of t.0 (log ++ Child u owner group p ∷ []) ≡ Some (owner.0, group) =
    ap (λ (n : ℕ). parent_of n (log ++ Child u owner group p ∷ [])) (sym same) ∙ parent_of-push_child u owner group p log in
    let more : is_among (children_of o g (log ++ Child u owner group p ∷ [])) t ≡ (eqb owner.0 o && eqb group g) =
    ap (λ (v : List TaskId). is_among v t) (children_of-push o g log (Child u owner group p))
    ∙ elim (cases_Bool (eqb owner.0 o && eqb group g)) [
      | inl y ↦
          ap (λ (x : Bool). is_among (children_of o g log ++ cons_option (cond x (Some u) None) []) t) y
          ∙ is_among-push (children_of o g log) u t ∙ ap (λ (x : Bool). x || eqb u.0 t.0) before ∙ eq-eqb u.0 t.0 same ∙ sym y
      | inr n ↦
          ap (λ (x : Bool). is_among (children_of o g log ++ cons_option (cond x (Some u) None) []) t) n
          ∙ ap (λ (v : List TaskId). is_among v t) (append-nil (children_of o g log)) ∙ before ∙ sym n
    ] in
    more ∙ sym (ap (is_child_of o g) after)

pub parents-push : (log : List Event) (e : Event) → AreParents log → FitsGroups log e → AreParents (log ++ e ∷ [])
parents-push log (Root u p) old fits t o g = elim (cases_eq u.0 t.0) [
  | inl same ↦ made-free log (Root u p) u t o g old refl refl refl fits same
  | inr ne ↦ other log (Root u p) t o g old ne
]
parents-push log (Free u by p true) old fits t o g = elim (cases_eq u.0 t.0) [
  | inl same ↦ made-free log (Free u by p true) u t o g old refl refl refl (origin-none u.0 log fits) same
  | inr ne ↦ other log (Free u by p true) t o g old ne
]
parents-push log (Free u by p false) old fits t o g = elim (cases_eq u.0 t.0) [
  | inl same ↦ made-free log (Free u by p false) u t o g old refl refl refl (origin-none u.0 log fits) same
  | inr ne ↦ other log (Free u by p false) t o g old ne
]
parents-push log (Child u owner group p) old fits t o g = elim (cases_eq u.0 t.0) [
  | inl same ↦ made-child log u owner group p t o g old fits.0 same
  | inr ne ↦ other log (Child u owner group p) t o g old ne
]
parents-push log (Begin u n env) old fits t o g = quiet log (Begin u n env) t o g old refl refl
parents-push log (Apply u n) old fits t o g = quiet log (Apply u n) t o g old refl refl
parents-push log (Open u n) old fits t o g = quiet log (Open u n) t o g old refl refl
parents-push log (Skip u n) old fits t o g = quiet log (Skip u n) t o g old refl refl
parents-push log (CancelTask u) old fits t o g = quiet log (CancelTask u) t o g old refl refl
parents-push log (CancelGroup u n) old fits t o g = quiet log (CancelGroup u n) t o g old refl refl
parents-push log (Wait u awaited) old fits t o g = quiet log (Wait u awaited) t o g old refl refl
parents-push log (Next u n) old fits t o g = quiet log (Next u n) t o g old refl refl
parents-push log (Close u n) old fits t o g = quiet log (Close u n) t o g old refl refl
parents-push log (End u ending) old fits t o g = quiet log (End u ending) t o g old refl refl
parents-push log (Give u n resume) old fits t o g = quiet log (Give u n resume) t o g old refl refl

-- whether a task is a child of a group, where its parent is known
pub child-of : (log : List Event) (t : TaskId) (u h : ℕ) (parent : Option (ℕ × ℕ)) → AreParents log → parent ≡ parent_of t.0 log → is_among (children_of u h log) t ≡ is_child_of u h parent
child-of log t u h parent old same = old t u h ∙ ap (is_child_of u h) (sym same)

-- a ledger's event fits the groups, where nothing is said of numbers that are not taken
pub fits-groups : (roots : ℕ) (log : List Event) (e : Event) → IsWellFormed roots log → CanNote roots log e → FitsGroups log e
fits-groups roots log (Root t p) form can = can.1
fits-groups roots log (Free t by p detached) form can = form.beyond t.0 (let e = can.0 in omega (arith, e))
fits-groups roots log (Open o g) form can = (can.1, made_few roots log o form can.0)
fits-groups roots log (Child t o g p) form can = (form.beyond t.0 (let e = can.0 in omega (arith, e)), can.2)
fits-groups roots log (CancelGroup o g) form can = can.1
fits-groups roots log (Next o g) form can = can.1
fits-groups roots log (Close o g) form can = can.1
fits-groups roots log (End t ending) form can = can.1
fits-groups roots log (Begin t n env) form can = tt
fits-groups roots log (Apply t n) form can = tt
fits-groups roots log (Skip o g) form can = tt
fits-groups roots log (CancelTask t) form can = tt
fits-groups roots log (Wait t awaited) form can = tt
fits-groups roots log (Give t n resume) form can = tt
