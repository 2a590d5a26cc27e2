-- Which tasks are cancelled once one more event is written.
use Rattle.std.proofs.Common.{◌≡◌, ◌≢◌, ℕ, ◌<◌, List, [], ◌∷◌, ◌++◌, refl, sym, ◌∙◌, ap, arith, true, false, Bool, inl, inr, subst, zero, suc, append_assoc}
use Rattle.std.specs.Prelude.{Option, Some, None, ◌==◌, ◌||◌}
use Rattle.std.proofs.lemmas.Bool.{cases_eq, cases_Bool, or_cases, or_left, or_right, true≢false, false≢true}
use Rattle.std.proofs.lemmas.List.{append-nil}
use Rattle.swift_types.specs.declared.id.TaskId.{TaskId}
use Rattle.swift_types.specs.declared.priority.Priority.{Priority}
use Rattle.swift_events.specs.declared.event.Event.{Event}
use Rattle.swift_events.specs.declared.event.Event.TheVariants.{Root, Begin, Apply, Free, Open, Child, Skip, CancelTask, CancelGroup, Wait, Next, Close, End, Give}
use Rattle.swift_events.specs.Events.{task_of, events_of}
use Rattle.swift_events.specs.Relations.{names_group, is_named_group, names_task, is_named, parent_by, parent_of, of_parent, cancelled_within, is_cancelled, is_cancelled_group}
use Rattle.swift_events.specs.Laws.{OwnersAreOlder, MakesNew, AllMakeNew}
use Rattle.swift_events.proofs.LogLemmas.{is_named-push, is_named-push_no, is_named_group-push, is_named_group-push_no, parent_of-push, parent_of-push_other, parent_of-push_child}

pub of_parent_same : (p : Option (ℕ × ℕ)) (f g : ℕ → ℕ → Bool) → ((x : ℕ × ℕ) → p ≡ Some x → f x.0 x.1 ≡ g x.0 x.1) → of_parent p f ≡ of_parent p g
of_parent_same None f g h = refl
of_parent_same (Some x) f g h = h x refl

-- more steps than a chain of owners is long change nothing
same_within : (n m t : ℕ) (log : List Event) → OwnersAreOlder log → t < n → t < m → cancelled_within n t log ≡ cancelled_within m t log
same_within zero m t log older a b = absurd (omega (arith, a))
same_within (suc n) zero t log older a b = absurd (omega (arith, b))
same_within (suc n) (suc m) t log older a b =
    ap (λ c. is_named t log || c) (of_parent_same (parent_of t log) (λ o g. is_named_group o g log || cancelled_within n o log) (λ o g. is_named_group o g log || cancelled_within m o log)
    (λ x is. let less : x.0 < t = older t x is in ap (λ c. is_named_group x.0 x.1 log || c) (same_within n m x.0 log older (omega (arith, less, a)) (omega (arith, less, b)))))

-- a task is cancelled by name, or with its group
pub cancelled_step : (t : ℕ) (log : List Event) → OwnersAreOlder log → is_cancelled t log ≡ (is_named t log || of_parent (parent_of t log) (λ o g. is_cancelled_group o g log))
cancelled_step t log older =
    ap (λ c. is_named t log || c) (of_parent_same (parent_of t log) (λ o g. is_named_group o g log || cancelled_within t o log) (λ o g. is_named_group o g log || is_cancelled o log)
    (λ x is. let less : x.0 < t = older t x is in ap (λ c. is_named_group x.0 x.1 log || c) (same_within t (suc x.0) x.0 log older less (omega arith))))

or-false : (b : Bool) → (b || false) ≡ b
or-false true = refl
or-false false = refl

-- a task that is no child is cancelled by name alone
pub cancelled_no_child : (t : ℕ) (log : List Event) → parent_of t log ≡ None → is_cancelled t log ≡ is_named t log
cancelled_no_child t log none = ap (λ p. is_named t log || of_parent p (λ o g. is_named_group o g log || cancelled_within t o log)) none ∙ or-false (is_named t log)

-- a task without events has no name
names_task_of : (t : ℕ) (e : Event) → names_task t e ≡ true → (task_of e == t) ≡ true
names_task_of t (CancelTask task) h = h
names_task_of t (Root a p) h = absurd (false≢true h)
names_task_of t (Begin a n env) h = absurd (false≢true h)
names_task_of t (Apply a n) h = absurd (false≢true h)
names_task_of t (Free a by p d) h = absurd (false≢true h)
names_task_of t (Open a g) h = absurd (false≢true h)
names_task_of t (Child a o g p) h = absurd (false≢true h)
names_task_of t (Skip a g) h = absurd (false≢true h)
names_task_of t (CancelGroup a g) h = absurd (false≢true h)
names_task_of t (Wait a b) h = absurd (false≢true h)
names_task_of t (Next a g) h = absurd (false≢true h)
names_task_of t (Close a g) h = absurd (false≢true h)
names_task_of t (End a ending) h = absurd (false≢true h)
names_task_of t (Give a n resume) h = absurd (false≢true h)

pub unnamed_without : (t : ℕ) (log : List Event) → events_of t log ≡ [] → is_named t log ≡ false
unnamed_without t [] none = refl
unnamed_without t (e ∷ es) none = elim (cases_Bool (task_of e == t)) [
  | inl own ↦ absurd (let h : e ∷ events_of t es ≡ [] = rw own at none in cc)
  | inr other ↦ (let rest : events_of t es ≡ [] = rw other at none in
      elim (cases_Bool (names_task t e)) [
        | inl named ↦ absurd (true≢false (sym (names_task_of t e named) ∙ other))
        | inr unnamed ↦ rw (unnamed, unnamed_without t es rest) refl
      ])
]

-- one more event that leaves each parent as it was

or-true : (b : Bool) → (b || true) ≡ true
or-true true = refl
or-true false = refl

or_grows : (a a' n n' c c' : Bool) → (c ≡ true → c' ≡ true) → ((a || a') || ((n || n') || c')) ≡ ((a || (n || c)) || (a' || (n' || c')))
or_grows true a' n n' c c' h = refl
or_grows false true true n' c c' h = refl
or_grows false true false n' true c' h = refl
or_grows false true false n' false c' h = refl
or_grows false false true n' c c' h = refl
or_grows false false false n' true c' h = rw (h refl) (or-true n')
or_grows false false false true false c' h = refl
or_grows false false false false false c' h = refl

or_none : (a a' : Bool) → ((a || a') || false) ≡ ((a || false) || (a' || false))
or_none true a' = refl
or_none false true = refl
or_none false false = refl

grows : (p : Option (ℕ × ℕ)) (a a' : Bool) (n n' c c' : ℕ → ℕ → Bool) → ((x : ℕ × ℕ) → p ≡ Some x → c x.0 x.1 ≡ true → c' x.0 x.1 ≡ true)
    → ((a || a') || of_parent p (λ o g. (n o g || n' o g) || c' o g)) ≡ ((a || of_parent p (λ o g. n o g || c o g)) || (a' || of_parent p (λ o g. n' o g || c' o g)))
grows None a a' n n' c c' h = or_none a a'
grows (Some x) a a' n n' c c' h = or_grows a a' (n x.0 x.1) (n' x.0 x.1) (c x.0 x.1) (c' x.0 x.1) (h x refl)

abbrev pub SameParents : List Event → Event → Type 0
SameParents log e = (t : ℕ) → parent_of t (log ++ e ∷ []) ≡ parent_of t log

pub older_same : (log : List Event) (e : Event) → SameParents log e → OwnersAreOlder log → OwnersAreOlder (log ++ e ∷ [])
older_same log e same older t x is = older t x (sym (same t) ∙ is)

-- a parent that a task has stays
parent_stays : (t : ℕ) (x : ℕ × ℕ) (log : List Event) (e : Event) → MakesNew log e → parent_of t log ≡ Some x → parent_of t (log ++ e ∷ []) ≡ Some x
parent_stays t x log e new is = elim new [
  | inl none ↦ parent_of-push t log e none ∙ is
  | inr unmade ↦ parent_of-push_other t log e (λ (same : task_of e ≡ t).
      (let orphan : parent_of t log ≡ None = subst (λ (k : ℕ). parent_of k log ≡ None) same (ap parent_by unmade) in cc)) ∙ is
]

of_parent_stays : (p q : Option (ℕ × ℕ)) (f g : ℕ → ℕ → Bool) → ((x : ℕ × ℕ) → p ≡ Some x → q ≡ Some x) → ((x : ℕ × ℕ) → f x.0 x.1 ≡ true → g x.0 x.1 ≡ true) → of_parent p f ≡ true → of_parent q g ≡ true
of_parent_stays None q f g keep h is = absurd (false≢true is)
of_parent_stays (Some x) q f g keep h is = subst (λ (p : Option (ℕ × ℕ)). of_parent p g ≡ true) (sym (keep x refl)) (h x is)

within_stays : (n t : ℕ) (log : List Event) (e : Event) → MakesNew log e → cancelled_within n t log ≡ true → cancelled_within n t (log ++ e ∷ []) ≡ true
within_stays zero t log e new h = absurd (false≢true h)
within_stays (suc n) t log e new h =
    let more : List Event = log ++ e ∷ [] in
    elim (or_cases (is_named t log) (of_parent (parent_of t log) (λ o g. is_named_group o g log || cancelled_within n o log)) h) [
      | inl named ↦ or_left (is_named t more) (of_parent (parent_of t more) (λ o g. is_named_group o g more || cancelled_within n o more))
          (is_named-push t log e ∙ or_left (is_named t log) (names_task t e) named)
      | inr by ↦ or_right (is_named t more) (of_parent (parent_of t more) (λ o g. is_named_group o g more || cancelled_within n o more))
          (of_parent_stays (parent_of t log) (parent_of t more) (λ o g. is_named_group o g log || cancelled_within n o log) (λ o g. is_named_group o g more || cancelled_within n o more)
          (λ x is. parent_stays t x log e new is)
          (λ x is. elim (or_cases (is_named_group x.0 x.1 log) (cancelled_within n x.0 log) is) [
            | inl named ↦ or_left (is_named_group x.0 x.1 more) (cancelled_within n x.0 more) (is_named_group-push x.0 x.1 log e ∙ or_left (is_named_group x.0 x.1 log) (names_group x.0 x.1 e) named)
            | inr owner ↦ or_right (is_named_group x.0 x.1 more) (cancelled_within n x.0 more) (within_stays n x.0 log e new owner)
          ])
          by)
    ]

-- a task that is cancelled stays so
pub cancelled_stays : (t : ℕ) (log : List Event) (e : Event) → MakesNew log e → is_cancelled t log ≡ true → is_cancelled t (log ++ e ∷ []) ≡ true
cancelled_stays t log e new h = within_stays (suc t) t log e new h

pub cancelled_stays_on : (t : ℕ) (log more : List Event) → AllMakeNew log more → is_cancelled t log ≡ true → is_cancelled t (log ++ more) ≡ true
cancelled_stays_on t log [] all h = subst (λ (es : List Event). is_cancelled t es ≡ true) (sym (append-nil log)) h
cancelled_stays_on t log (e ∷ es) all h = subst (λ (l : List Event). is_cancelled t l ≡ true) (append_assoc log (e ∷ []) es) (cancelled_stays_on t (log ++ e ∷ []) es all.1 (cancelled_stays t log e all.0 h))

-- which tasks one more event cancels
pub cancelled_push : (t : ℕ) (log : List Event) (e : Event) → OwnersAreOlder log → SameParents log e → MakesNew log e
    → is_cancelled t (log ++ e ∷ []) ≡ (is_cancelled t log || (names_task t e || of_parent (parent_of t log) (λ o g. names_group o g e || is_cancelled o (log ++ e ∷ []))))
cancelled_push t log e older same new =
    let more : List Event = log ++ e ∷ [] in
    cancelled_step t more (older_same log e same older)
    ∙ ap (λ b. b || of_parent (parent_of t more) (λ o g. is_named_group o g more || is_cancelled o more)) (is_named-push t log e)
    ∙ ap (λ p. (is_named t log || names_task t e) || of_parent p (λ o g. is_named_group o g more || is_cancelled o more)) (same t)
    ∙ ap (λ b. (is_named t log || names_task t e) || b)
    (of_parent_same (parent_of t log) (λ o g. is_named_group o g more || is_cancelled o more) (λ o g. (is_named_group o g log || names_group o g e) || is_cancelled o more)
    (λ x _. ap (λ b. b || is_cancelled x.0 more) (is_named_group-push x.0 x.1 log e)))
    ∙ grows (parent_of t log) (is_named t log) (names_task t e) (λ o g. is_named_group o g log) (λ o g. names_group o g e) (λ o g. is_cancelled o log) (λ o g. is_cancelled o more)
    (λ x _ h. cancelled_stays x.0 log e new h)
    ∙ ap (λ b. b || (names_task t e || of_parent (parent_of t log) (λ o g. names_group o g e || is_cancelled o more))) (sym (cancelled_step t log older))

of_parent_true : (p : Option (ℕ × ℕ)) (f : ℕ → ℕ → Bool) → of_parent p f ≡ true → (x : ℕ × ℕ) × (p ≡ Some x) × (f x.0 x.1 ≡ true)
of_parent_true None f h = absurd (false≢true h)
of_parent_true (Some x) f h = (x, refl, h)

or_absorbs : (a b : Bool) → (b ≡ true → a ≡ true) → (a || b) ≡ a
or_absorbs true b h = refl
or_absorbs false true h = sym (h refl)
or_absorbs false false h = refl

-- the event names only what is cancelled already, or what nobody is a child of
pub record NamesNothingNew (log : List Event) (e : Event) : Type 0 where
  pub tasks : (t : ℕ) → names_task t e ≡ true → is_cancelled t log ≡ true
  pub groups : (t : ℕ) (x : ℕ × ℕ) → parent_of t log ≡ Some x → names_group x.0 x.1 e ≡ true → is_cancelled_group x.0 x.1 log ≡ true

settled : (n t : ℕ) (log : List Event) (e : Event) → OwnersAreOlder log → SameParents log e → MakesNew log e → NamesNothingNew log e → t < n → is_cancelled t (log ++ e ∷ []) ≡ is_cancelled t log
settled zero t log e older same new names h = absurd (omega (arith, h))
settled (suc n) t log e older same new names h =
    let more : List Event = log ++ e ∷ [] in
    cancelled_push t log e older same new
    ∙ or_absorbs (is_cancelled t log) (names_task t e || of_parent (parent_of t log) (λ o g. names_group o g e || is_cancelled o more))
    (λ b. elim (or_cases (names_task t e) (of_parent (parent_of t log) (λ o g. names_group o g e || is_cancelled o more)) b) [
      | inl named ↦ names.tasks t named
      | inr by ↦ (let w = of_parent_true (parent_of t log) (λ o g. names_group o g e || is_cancelled o more) by in
          let less : w.0.0 < t = older t w.0 w.1 in
          let group : is_cancelled_group w.0.0 w.0.1 log ≡ true = elim (or_cases (names_group w.0.0 w.0.1 e) (is_cancelled w.0.0 more) w.2) [
            | inl named ↦ names.groups t w.0 w.1 named
            | inr owner ↦ or_right (is_named_group w.0.0 w.0.1 log) (is_cancelled w.0.0 log) (sym (settled n w.0.0 log e older same new names (omega (arith, less, h))) ∙ owner)
          ] in
          cancelled_step t log older ∙ or_right (is_named t log) (of_parent (parent_of t log) (λ o g. is_cancelled_group o g log))
          (ap (λ p. of_parent p (λ o g. is_cancelled_group o g log)) w.1 ∙ group))
    ])

-- an event that names nothing new cancels nobody
pub cancelled_same : (t : ℕ) (log : List Event) (e : Event) → OwnersAreOlder log → SameParents log e → MakesNew log e → NamesNothingNew log e → is_cancelled t (log ++ e ∷ []) ≡ is_cancelled t log
cancelled_same t log e older same new names = settled (suc t) t log e older same new names (omega arith)

-- one more child

child_within : (n k : ℕ) (t o : TaskId) (g : ℕ) (p : Priority) (log : List Event) → OwnersAreOlder log → k < t.0 → cancelled_within n k (log ++ Child t o g p ∷ []) ≡ cancelled_within n k log
child_within zero k t o g p log older h = refl
child_within (suc n) k t o g p log older h =
    let e : Event = Child t o g p in
    let more : List Event = log ++ e ∷ [] in
    let ne : t.0 ≢ k = omega (arith, h) in
    ap (λ b. b || of_parent (parent_of k more) (λ a b. is_named_group a b more || cancelled_within n a more)) (is_named-push_no k log e refl)
    ∙ ap (λ q. is_named k log || of_parent q (λ a b. is_named_group a b more || cancelled_within n a more)) (parent_of-push_other k log e ne)
    ∙ ap (λ b. is_named k log || b)
    (of_parent_same (parent_of k log) (λ a b. is_named_group a b more || cancelled_within n a more) (λ a b. is_named_group a b log || cancelled_within n a log)
    (λ x is. let less : x.0 < k = older k x is in
    ap (λ b. b || cancelled_within n x.0 more) (is_named_group-push_no x.0 x.1 log e refl)
    ∙ ap (λ b. is_named_group x.0 x.1 log || b) (child_within n x.0 t o g p log older (omega (arith, less, h)))))

-- no older task is cancelled by it
pub cancelled_before_child : (k : ℕ) (t o : TaskId) (g : ℕ) (p : Priority) (log : List Event) → OwnersAreOlder log → k < t.0 → is_cancelled k (log ++ Child t o g p ∷ []) ≡ is_cancelled k log
cancelled_before_child k t o g p log older h = child_within (suc k) k t o g p log older h

pub older_child : (t o : TaskId) (g : ℕ) (p : Priority) (log : List Event) → o.0 < t.0 → OwnersAreOlder log → OwnersAreOlder (log ++ Child t o g p ∷ [])
older_child t o g p log less older k x is = elim (cases_eq t.0 k) [
  | inl same ↦ (let born : Some (o.0, g) ≡ Some x = sym (subst (λ (n : ℕ). parent_of n (log ++ Child t o g p ∷ []) ≡ Some (o.0, g)) same (parent_of-push_child t o g p log)) ∙ is in
      let owner : (o.0, g) ≡ x = cc in
      let number : o.0 ≡ x.0 = ap (λ (y : ℕ × ℕ). y.0) owner in
      omega (arith, number, same, less))
  | inr other ↦ older k x (sym (parent_of-push_other k log (Child t o g p) other) ∙ is)
]

-- a child is born cancelled where its group is
pub cancelled_child : (t o : TaskId) (g : ℕ) (p : Priority) (log : List Event) → OwnersAreOlder log → o.0 < t.0 → events_of t.0 log ≡ [] → is_cancelled t.0 (log ++ Child t o g p ∷ []) ≡ is_cancelled_group o.0 g log
cancelled_child t o g p log older less none =
    let e : Event = Child t o g p in
    let more : List Event = log ++ e ∷ [] in
    cancelled_step t.0 more (older_child t o g p log less older)
    ∙ ap (λ b. b || of_parent (parent_of t.0 more) (λ a b. is_cancelled_group a b more)) (is_named-push_no t.0 log e refl ∙ unnamed_without t.0 log none)
    ∙ ap (λ q. of_parent q (λ a b. is_cancelled_group a b more)) (parent_of-push_child t o g p log)
    ∙ ap (λ b. b || is_cancelled o.0 more) (is_named_group-push_no o.0 g log e refl)
    ∙ ap (λ b. is_named_group o.0 g log || b) (cancelled_before_child o.0 t o g p log older less)
