-- A log stays well-formed where an event that may be written is written.
use Rattle.swift_ledger.proofs.Prelude.{◌≡◌, ℕ, ◌+◌, ◌-◌, ◌<◌, ◌≤◌, List, [], ◌∷◌, ◌++◌, refl, sym, ◌∙◌, ap, arith, true, false, Bool, inl, inr, subst, Option, Some, None, ◌==◌, IsSome, is_some, All, filter_map, cases_eq, cases_lt, cases_Bool, false≢true, All-nil, All-cons, All-append, All-weaker, All-same, TASKS, TaskId, Priority, Event, Root, Begin, Apply, Free, Open, Child, Skip, CancelTask, CancelGroup, Wait, Next, Close, End, Give, Life, task_of, events_of, later, is_made, tasks_of, life_of, lived, unborn, origin_in, room_held, own_in, own_tasks, waiter_in, waiters_of, parent_by, parent_of, reserved_of, sum_of_none, life_of-push_same, life_of-push_other, unborn_without, tasks_of-push_made, tasks_of-push_other, none_beyond, reserved_of-push, reserved_of-push_made, life_le_sum, own_tasks-push, waiters_of-push, parent_of-push, parent_of-push_other, parent_of-push_child, SameParents, older_same, older_child, IsMade, HasRoom, CanNote, IsWellFormed}
use Rattle.swift_events.specs.Laws.{OwnersAreOlder, MakesNew}

-- tasks that were made

pub unmade_beyond : (roots : ℕ) (log : List Event) (t : ℕ) → IsWellFormed roots log → tasks_of roots log ≤ t → life_of t log ≡ unborn
unmade_beyond roots log t form le = unborn_without t log (form.beyond t le)

pub made_below : (roots : ℕ) (log : List Event) (t : TaskId) → IsWellFormed roots log → IsMade log t → t.0 < tasks_of roots log
made_below roots log t form made = elim (cases_lt t.0 (tasks_of roots log)) [
  | inl less ↦ less
  | inr le ↦ absurd (let none : (life_of t.0 log).origin ≡ None = ap (λ (l : Life). l.origin) (unmade_beyond roots log t.0 form le) in
      false≢true (sym (ap is_some none) ∙ made))
]

-- so its number is one that a run may have
pub made_few : (roots : ℕ) (log : List Event) (t : TaskId) → IsWellFormed roots log → IsMade log t → t.0 < TASKS
made_few roots log t form made = let below = made_below roots log t form made in let limit = form.limit in omega (arith, below, limit)

some_later : {A : Type 0} (x y : Option A) → IsSome y → IsSome (later x y)
some_later (Some x) y h = refl
some_later None y h = h

pub made_stays : (log : List Event) (e : Event) (t : TaskId) → IsMade log t → IsMade (log ++ e ∷ []) t
made_stays log e t made = elim (cases_eq (task_of e) t.0) [
  | inl same ↦ ap (λ (l : Life). is_some l.origin) (life_of-push_same t.0 log e same) ∙ some_later (origin_in e) (life_of t.0 log).origin made
  | inr other ↦ ap (λ (l : Life). is_some l.origin) (life_of-push_other t.0 log e other) ∙ made
]

-- an event that makes a task makes the next one; each other is of one whose number is taken

pub made_next : (roots : ℕ) (log : List Event) (e : Event) → CanNote roots log e → is_made e ≡ true → task_of e ≡ tasks_of roots log
made_next roots log (Free t by p d) can made = can.0
made_next roots log (Child t o g p) can made = can.0
made_next roots log _ can made = absurd (false≢true made)

pub known_below : (roots : ℕ) (log : List Event) (e : Event) → IsWellFormed roots log → CanNote roots log e → is_made e ≡ false → task_of e < tasks_of roots log
known_below roots log (Root t p) form can made = omega (arith, can.0)
known_below roots log (Begin t n env) form can made = made_below roots log t form can.0
known_below roots log (Apply t n) form can made = made_below roots log t form can
known_below roots log (Free t by p d) form can made = absurd (false≢true (sym made))
known_below roots log (Open t g) form can made = made_below roots log t form can.0
known_below roots log (Child t o g p) form can made = absurd (false≢true (sym made))
known_below roots log (Skip t g) form can made = made_below roots log t form can
known_below roots log (CancelTask t) form can made = made_below roots log t form can
known_below roots log (CancelGroup t g) form can made = made_below roots log t form can.0
known_below roots log (Wait t awaited) form can made = made_below roots log t form can.0
known_below roots log (Next t g) form can made = made_below roots log t form can.0
known_below roots log (Close t g) form can made = made_below roots log t form can.0
known_below roots log (End t ending) form can made = made_below roots log t form can.0
known_below roots log (Give t n resume) form can made = made_below roots log t form can

-- room

made_needs_room : (roots : ℕ) (log : List Event) (e : Event) → CanNote roots log e → is_made e ≡ true → HasRoom roots log
made_needs_room roots log (Free t by p d) can made = can.2
made_needs_room roots log (Child t o g p) can made = can.3
made_needs_room roots log _ can made = absurd (false≢true made)

pub made_holds_none : (e : Event) → is_made e ≡ true → room_held (lived unborn e) ≡ 0
made_holds_none (Free t by p true) made = refl
made_holds_none (Free t by p false) made = refl
made_holds_none (Child t o g p) made = refl
made_holds_none _ made = absurd (false≢true made)

-- what a task holds by one more event of its own fits
holds_after : (roots : ℕ) (log : List Event) (e : Event) → CanNote roots log e → (held reserved : ℕ) → held ≡ room_held (life_of (task_of e) log) → reserved ≡ reserved_of roots log → held ≤ reserved → tasks_of roots log + reserved ≤ TASKS
    → tasks_of roots log + (reserved - held) + room_held (lived (life_of (task_of e) log) e) ≤ TASKS
holds_after roots log (Root t p) can held reserved is all le fits = omega (arith, is, le, fits)
holds_after roots log (Begin t n env) can held reserved is all le fits = let c = can.1 in omega (arith, c, is, all)
holds_after roots log (Apply t n) can held reserved is all le fits = omega (arith, le, fits)
holds_after roots log (Free t by p true) can held reserved is all le fits = omega (arith, is, le, fits)
holds_after roots log (Free t by p false) can held reserved is all le fits = omega (arith, is, le, fits)
holds_after roots log (Open t g) can held reserved is all le fits = omega (arith, is, le, fits)
holds_after roots log (Child t o g p) can held reserved is all le fits = omega (arith, is, le, fits)
holds_after roots log (Skip t g) can held reserved is all le fits = omega (arith, is, le, fits)
holds_after roots log (CancelTask t) can held reserved is all le fits = omega (arith, is, le, fits)
holds_after roots log (CancelGroup t g) can held reserved is all le fits = omega (arith, is, le, fits)
holds_after roots log (Wait t awaited) can held reserved is all le fits = omega (arith, le, fits)
holds_after roots log (Next t g) can held reserved is all le fits = omega (arith, le, fits)
holds_after roots log (Close t g) can held reserved is all le fits = omega (arith, le, fits)
holds_after roots log (End t ending) can held reserved is all le fits = omega (arith, is, le, fits)
holds_after roots log (Give t n resume) can held reserved is all le fits = omega (arith, le, fits)

pub held_within : (roots : ℕ) (log : List Event) (t : ℕ) → t < tasks_of roots log → room_held (life_of t log) ≤ reserved_of roots log
held_within roots log t less = life_le_sum room_held (tasks_of roots log) log t less

limit_push : (roots : ℕ) (log : List Event) (e : Event) → IsWellFormed roots log → CanNote roots log e → tasks_of roots (log ++ e ∷ []) + reserved_of roots (log ++ e ∷ []) ≤ TASKS
limit_push roots log e form can = elim (cases_Bool (is_made e)) [
  | inl made ↦ (let at : task_of e ≡ tasks_of roots log = made_next roots log e can made in
      let more = tasks_of-push_made roots log e made in
      let same = reserved_of-push_made roots log e made at (form.beyond (tasks_of roots log) (omega arith)) in
      let none = made_holds_none e made in
      let room : tasks_of roots log + reserved_of roots log < TASKS = made_needs_room roots log e can made in
      omega (arith, more, same, none, room))
  | inr known ↦ (let below = known_below roots log e form can known in
      let same = tasks_of-push_other roots log e known in
      let sums = reserved_of-push roots log e known below in
      let le = held_within roots log (task_of e) below in
      let after = ap room_held (life_of-push_same (task_of e) log e refl) in
      let fits = holds_after roots log e can (room_held (life_of (task_of e) log)) (reserved_of roots log) refl refl le form.limit in
      omega (arith, same, sums, le, after, fits))
]

beyond_push : (roots : ℕ) (log : List Event) (e : Event) → IsWellFormed roots log → CanNote roots log e → (t : ℕ) → tasks_of roots (log ++ e ∷ []) ≤ t → events_of t (log ++ e ∷ []) ≡ []
beyond_push roots log e form can t le = elim (cases_Bool (is_made e)) [
  | inl made ↦ (let at : task_of e ≡ tasks_of roots log = made_next roots log e can made in
      let more = tasks_of-push_made roots log e made in
      none_beyond (tasks_of roots log + 1) log e (omega (arith, at)) (λ k (h : tasks_of roots log + 1 ≤ k). form.beyond k (omega (arith, h))) t (omega (arith, more, le)))
  | inr known ↦ (let below = known_below roots log e form can known in
      let same = tasks_of-push_other roots log e known in
      none_beyond (tasks_of roots log) log e below form.beyond t (omega (arith, same, le)))
]

-- parents

-- an event that makes a task that is no child gives nobody a parent
same_parents_free : (log : List Event) (e : Event) → (life_of (task_of e) log).origin ≡ None → parent_by (later (origin_in e) None) ≡ None → SameParents log e
same_parents_free log e unmade none t = elim (cases_eq (task_of e) t) [
  | inl same ↦ (let was : (life_of t log).origin ≡ None = subst (λ (k : ℕ). (life_of k log).origin ≡ None) same unmade in
      ap (λ (l : Life). parent_by l.origin) (life_of-push_same t log e same) ∙ ap (λ o. parent_by (later (origin_in e) o)) was ∙ none ∙ sym (ap parent_by was))
  | inr other ↦ parent_of-push_other t log e other
]

-- the task is a child of that owner and group
abbrev pub is_child : Event → Bool
is_child (Child t o g p) = true
is_child _ = false

unmade_free : (roots : ℕ) (log : List Event) (t : ℕ) → IsWellFormed roots log → t ≡ tasks_of roots log → (life_of t log).origin ≡ None
unmade_free roots log t form at = ap (λ (l : Life). l.origin) (unmade_beyond roots log t form (omega (arith, at)))

-- none but the making of a child gives a parent
pub same_parents : (roots : ℕ) (log : List Event) (e : Event) → IsWellFormed roots log → CanNote roots log e → is_child e ≡ false → SameParents log e
same_parents roots log (Root t p) form can h = same_parents_free log (Root t p) can.1 refl
same_parents roots log (Free t by p true) form can h = same_parents_free log (Free t by p true) (unmade_free roots log t.0 form can.0) refl
same_parents roots log (Free t by p false) form can h = same_parents_free log (Free t by p false) (unmade_free roots log t.0 form can.0) refl
same_parents roots log (Child t o g p) form can h = absurd (false≢true (sym h))
same_parents roots log (Begin t n env) form can h = λ k. parent_of-push k log (Begin t n env) refl
same_parents roots log (Apply t n) form can h = λ k. parent_of-push k log (Apply t n) refl
same_parents roots log (Open t g) form can h = λ k. parent_of-push k log (Open t g) refl
same_parents roots log (Skip t g) form can h = λ k. parent_of-push k log (Skip t g) refl
same_parents roots log (CancelTask t) form can h = λ k. parent_of-push k log (CancelTask t) refl
same_parents roots log (CancelGroup t g) form can h = λ k. parent_of-push k log (CancelGroup t g) refl
same_parents roots log (Wait t awaited) form can h = λ k. parent_of-push k log (Wait t awaited) refl
same_parents roots log (Next t g) form can h = λ k. parent_of-push k log (Next t g) refl
same_parents roots log (Close t g) form can h = λ k. parent_of-push k log (Close t g) refl
same_parents roots log (End t ending) form can h = λ k. parent_of-push k log (End t ending) refl
same_parents roots log (Give t n resume) form can h = λ k. parent_of-push k log (Give t n resume) refl

pub makes_new : (roots : ℕ) (log : List Event) (e : Event) → IsWellFormed roots log → CanNote roots log e → MakesNew log e
makes_new roots log (Root t p) form can = inr can.1
makes_new roots log (Free t by p true) form can = inr (unmade_free roots log t.0 form can.0)
makes_new roots log (Free t by p false) form can = inr (unmade_free roots log t.0 form can.0)
makes_new roots log (Child t o g p) form can = inr (unmade_free roots log t.0 form can.0)
makes_new roots log _ form can = inl refl

-- the owner of a child was made before
pub owner_older : (roots : ℕ) (log : List Event) (t o : TaskId) (g : ℕ) (p : Priority) → IsWellFormed roots log → CanNote roots log (Child t o g p) → o.0 < t.0
owner_older roots log t o g p form can = let below = made_below roots log o form can.1 in let at = can.0 in omega (arith, below, at)

older_by_child : (roots : ℕ) (log : List Event) (e : Event) → IsWellFormed roots log → CanNote roots log e → is_child e ≡ true → OwnersAreOlder (log ++ e ∷ [])
older_by_child roots log (Child t o g p) form can h = older_child t o g p log (owner_older roots log t o g p form can) form.older
older_by_child roots log _ form can h = absurd (false≢true h)

older_push : (roots : ℕ) (log : List Event) (e : Event) → IsWellFormed roots log → CanNote roots log e → OwnersAreOlder (log ++ e ∷ [])
older_push roots log e form can = elim (cases_Bool (is_child e)) [
  | inl child ↦ older_by_child roots log e form can child
  | inr other ↦ older_same log e (same_parents roots log e form can other) form.older
]

owners_by_child : (roots : ℕ) (log : List Event) (e : Event) → IsWellFormed roots log → CanNote roots log e → is_child e ≡ true → (t : ℕ) (x : ℕ × ℕ) → parent_of t (log ++ e ∷ []) ≡ Some x → IsMade (log ++ e ∷ []) (record { 0 = x.0 })
owners_by_child roots log (Child t o g p) form can h k x is = elim (cases_eq t.0 k) [
  | inl same ↦ (let born : Some (o.0, g) ≡ Some x = sym (subst (λ (n : ℕ). parent_of n (log ++ Child t o g p ∷ []) ≡ Some (o.0, g)) same (parent_of-push_child t o g p log)) ∙ is in
      let pair : (o.0, g) ≡ x = cc in
      subst (λ (n : ℕ). IsMade (log ++ Child t o g p ∷ []) (record { 0 = n })) (ap (λ (y : ℕ × ℕ). y.0) pair) (made_stays log (Child t o g p) o can.1))
  | inr other ↦ made_stays log (Child t o g p) (record { 0 = x.0 }) (form.owners k x (sym (parent_of-push_other k log (Child t o g p) other) ∙ is))
]
owners_by_child roots log _ form can h k x is = absurd (false≢true h)

owners_push : (roots : ℕ) (log : List Event) (e : Event) → IsWellFormed roots log → CanNote roots log e → (t : ℕ) (x : ℕ × ℕ) → parent_of t (log ++ e ∷ []) ≡ Some x → IsMade (log ++ e ∷ []) (record { 0 = x.0 })
owners_push roots log e form can t x is = elim (cases_Bool (is_child e)) [
  | inl child ↦ owners_by_child roots log e form can child t x is
  | inr other ↦ made_stays log e (record { 0 = x.0 }) (form.owners t x (sym (same_parents roots log e form can other t) ∙ is))
]

-- own tasks and waiters

made_now : (log : List Event) (made by : TaskId) (p : Priority) (d : Bool) → IsMade (log ++ Free made by p d ∷ []) made
made_now log made by p true = ap (λ (l : Life). is_some l.origin) (life_of-push_same made.0 log (Free made by p true) refl)
made_now log made by p false = ap (λ (l : Life). is_some l.origin) (life_of-push_same made.0 log (Free made by p false) refl)

own_new : (roots t : ℕ) (log : List Event) (e : Event) → CanNote roots log e → All (IsMade (log ++ e ∷ [])) (filter_map (own_in t) (e ∷ []))
own_new roots t log (Free made by p d) can =
    let more : List Event = log ++ Free made by p d ∷ [] in
    elim (cases_Bool (by.0 == t)) [
      | inl own ↦ All-same (IsMade more) (filter_map (own_in t) (Free made by p d ∷ [])) (made ∷ []) (rw own refl) (All-cons (IsMade more) made [] (made_now log made by p d) (All-nil (IsMade more)))
      | inr not ↦ All-same (IsMade more) (filter_map (own_in t) (Free made by p d ∷ [])) [] (rw not refl) (All-nil (IsMade more))
    ]
own_new roots t log e can = All-nil (IsMade (log ++ e ∷ []))

waiter_new : (roots t : ℕ) (log : List Event) (e : Event) → CanNote roots log e → All (IsMade (log ++ e ∷ [])) (filter_map (waiter_in t) (e ∷ []))
waiter_new roots t log (Wait waiter awaited) can =
    let more : List Event = log ++ Wait waiter awaited ∷ [] in
    elim (cases_Bool (awaited.0 == t)) [
      | inl own ↦ All-same (IsMade more) (filter_map (waiter_in t) (Wait waiter awaited ∷ [])) (waiter ∷ []) (rw own refl) (All-cons (IsMade more) waiter [] (made_stays log (Wait waiter awaited) waiter can.0) (All-nil (IsMade more)))
      | inr not ↦ All-same (IsMade more) (filter_map (waiter_in t) (Wait waiter awaited ∷ [])) [] (rw not refl) (All-nil (IsMade more))
    ]
waiter_new roots t log e can = All-nil (IsMade (log ++ e ∷ []))

own_push : (roots : ℕ) (log : List Event) (e : Event) → IsWellFormed roots log → CanNote roots log e → (t : ℕ) → All (IsMade (log ++ e ∷ [])) (own_tasks t (log ++ e ∷ []))
own_push roots log e form can t =
    let more : List Event = log ++ e ∷ [] in
    All-same (IsMade more) (own_tasks t more) (own_tasks t log ++ filter_map (own_in t) (e ∷ [])) (own_tasks-push t log e)
    (All-append (IsMade more) (own_tasks t log) (filter_map (own_in t) (e ∷ [])) (All-weaker (IsMade log) (IsMade more) (made_stays log e) (own_tasks t log) (form.own t)) (own_new roots t log e can))

waiters_push : (roots : ℕ) (log : List Event) (e : Event) → IsWellFormed roots log → CanNote roots log e → (t : ℕ) → All (IsMade (log ++ e ∷ [])) (waiters_of t (log ++ e ∷ []))
waiters_push roots log e form can t =
    let more : List Event = log ++ e ∷ [] in
    All-same (IsMade more) (waiters_of t more) (waiters_of t log ++ filter_map (waiter_in t) (e ∷ [])) (waiters_of-push t log e)
    (All-append (IsMade more) (waiters_of t log) (filter_map (waiter_in t) (e ∷ [])) (All-weaker (IsMade log) (IsMade more) (made_stays log e) (waiters_of t log) (form.waiters t)) (waiter_new roots t log e can))

pub form_push : (roots : ℕ) (log : List Event) (e : Event) → IsWellFormed roots log → CanNote roots log e → IsWellFormed roots (log ++ e ∷ [])
form_push roots log e form can = record {
  limit = limit_push roots log e form can;
  beyond = beyond_push roots log e form can;
  older = older_push roots log e form can;
  owners = owners_push roots log e form can;
  own = own_push roots log e form can;
  waiters = waiters_push roots log e form can;
}

-- an empty log
pub form_none : (roots : ℕ) → roots ≤ TASKS → IsWellFormed roots []
form_none roots fits = record {
  limit = omega (arith, fits, sum_of_none room_held refl (tasks_of roots []));
  beyond = λ t le. refl;
  older = λ t x is. absurd (let none : parent_of t [] ≡ None = ap (λ (l : Life). parent_by l.origin) (unborn_without t [] refl) in cc);
  owners = λ t x is. absurd (let none : parent_of t [] ≡ None = ap (λ (l : Life). parent_by l.origin) (unborn_without t [] refl) in cc);
  own = λ t. All-nil (IsMade []);
  waiters = λ t. All-nil (IsMade []);
}

-- what is reserved changes by what the event's task holds
pub reserved_push : (roots : ℕ) (log : List Event) (e : Event) → IsWellFormed roots log → CanNote roots log e → reserved_of roots (log ++ e ∷ []) + room_held (life_of (task_of e) log) ≡ reserved_of roots log + room_held (life_of (task_of e) (log ++ e ∷ []))
reserved_push roots log e form can = elim (cases_Bool (is_made e)) [
  | inl made ↦ (let at : task_of e ≡ tasks_of roots log = made_next roots log e can made in
      let none : life_of (task_of e) log ≡ unborn = unmade_beyond roots log (task_of e) form (omega (arith, at)) in
      let same = reserved_of-push_made roots log e made at (form.beyond (tasks_of roots log) (omega arith)) in
      let before = ap room_held none in
      let after = ap room_held (life_of-push_same (task_of e) log e refl ∙ ap (λ (l : Life). lived l e) none) in
      omega (arith, same, before, after))
  | inr known ↦ reserved_of-push roots log e known (known_below roots log e form can known)
]
