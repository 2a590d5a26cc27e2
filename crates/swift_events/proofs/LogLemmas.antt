-- What one more event changes of what a log gives.
use Rattle.std.proofs.Common.{◌≡◌, ◌≢◌, ℕ, ◌+◌, ◌<◌, ◌≤◌, List, [], ◌∷◌, ◌++◌, length, get_or, set, refl, sym, ◌∙◌, ap, arith, replicate, cond, true, false, Bool, get_or-set_same, get_or-set_other, length-set, inl, inr}
use Rattle.std.specs.Prelude.{Option, Some, None, ◌==◌, ◌||◌, sum_by}
use Rattle.std.specs.List.{filter_map, list_any}
use Rattle.std.proofs.lemmas.Bool.Decides.{nat_tests}
use Rattle.std.proofs.lemmas.Bool.{cases_eq, cond-true, cond-false, eq-eqb, ne_eqb}
use Rattle.std.proofs.lemmas.List.Elements.{filter-append, filter_map-append}
use Rattle.std.proofs.lemmas.List.Folds.{list_any-append, sum_by-replicate}
use Rattle.std.proofs.lemmas.List.Sums.{sum_by-set, sum_by_push, get_or-le-sum_by}
use Rattle.std.proofs.lemmas.List.{append-nil, length-replicate, get_or-replicate}
use Rattle.std.proofs.lemmas.List.FromFn.{fill_by_all, get_or-map-range_with_len, length-map-range_with_len, map-range_with_len_more}
use Rattle.swift_types.specs.declared.id.TaskId.{TaskId}
use Rattle.swift_types.specs.declared.priority.Priority.{Priority}
use Rattle.swift_escalation.specs.declared.waits.PriorityEvent.{PriorityEvent as Link}
use Rattle.swift_events.specs.declared.event.Event.{Event}
use Rattle.swift_events.specs.declared.event.Event.TheVariants.{Free, Child, Wait}
use Rattle.swift_events.specs.declared.life.Life.{Life}
use Rattle.swift_events.specs.Events.{task_of, events_of, last_of, later, is_made, tasks_of}
use Rattle.swift_events.specs.Lives.{life, life_of, lived, unborn, origin_in, given_in, stage_in, ending_in, is_open, room_held}
use Rattle.swift_events.specs.Relations.{own_in, own_tasks, waiter_in, waiters_of, link_in, links_of, opens, opened_by, child_in, children_of, asks, asked_of, closes, is_closed, names_group, is_named_group, names_task, is_named, parent_by, parent_of}
use Rattle.swift_events.specs.Room.{lives_of, open_of, reserved_of}

-- lists and tests of any kind

pub filter_map-push_some : {X Y : Type 0} (h : X → Option Y) (xs : List X) (x : X) (y : Y) → h x ≡ Some y → filter_map h (xs ++ x ∷ []) ≡ filter_map h xs ++ y ∷ []
filter_map-push_some h xs x y e = filter_map-append h xs (x ∷ []) ∙ rw e refl

pub filter_map-push_none : {X Y : Type 0} (h : X → Option Y) (xs : List X) (x : X) → h x ≡ None → filter_map h (xs ++ x ∷ []) ≡ filter_map h xs
filter_map-push_none h xs x e = filter_map-append h xs (x ∷ []) ∙ rw e (append-nil (filter_map h xs))

or-false : (b : Bool) → (b || false) ≡ b
or-false true = refl
or-false false = refl

pub list_any-push : {X : Type 0} (p : X → Bool) (xs : List X) (x : X) → list_any p (xs ++ x ∷ []) ≡ (list_any p xs || p x)
list_any-push p xs x = list_any-append p xs (x ∷ []) ∙ ap (λ b. list_any p xs || b) (or-false (p x))

pub list_any-push_no : {X : Type 0} (p : X → Bool) (xs : List X) (x : X) → p x ≡ false → list_any p (xs ++ x ∷ []) ≡ list_any p xs
list_any-push_no p xs x e = list_any-push p xs x ∙ rw e (or-false (list_any p xs))

-- the events of a task, and its life

later-none : {A : Type 0} (x : Option A) → x ≡ later x None
later-none (Some x) = refl
later-none None = refl

later_assoc : {A : Type 0} (x y z : Option A) → later (later x y) z ≡ later x (later y z)
later_assoc (Some x) y z = refl
later_assoc None y z = refl

-- the last event decides
pub last_of-push : {A : Type 0} (says : Event → Option A) (es : List Event) (e : Event) → last_of says (es ++ e ∷ []) ≡ later (says e) (last_of says es)
last_of-push says [] e = later-none (says e)
last_of-push says (x ∷ es) e = ap (λ o. later o (says x)) (last_of-push says es e) ∙ later_assoc (says e) (last_of says es) (says x)

pub life-push : (es : List Event) (e : Event) → life (es ++ e ∷ []) ≡ lived (life es) e
unfolding life
life-push es e = rw (last_of-push origin_in es e, last_of-push given_in es e, last_of-push stage_in es e, last_of-push ending_in es e)

pub events_of-push_same : (t : ℕ) (log : List Event) (e : Event) → task_of e ≡ t → events_of t (log ++ e ∷ []) ≡ events_of t log ++ e ∷ []
events_of-push_same t log e h = grind (arith, nat_tests, filter-append (λ x. task_of x == t) log (e ∷ []))

pub events_of-push_other : (t : ℕ) (log : List Event) (e : Event) → task_of e ≢ t → events_of t (log ++ e ∷ []) ≡ events_of t log
events_of-push_other t log e h = grind (arith, nat_tests, append-nil, filter-append (λ x. task_of x == t) log (e ∷ []))

pub life_of-push_same : (t : ℕ) (log : List Event) (e : Event) → task_of e ≡ t → life_of t (log ++ e ∷ []) ≡ lived (life_of t log) e
life_of-push_same t log e h = ap life (events_of-push_same t log e h) ∙ life-push (events_of t log) e

pub life_of-push_other : (t : ℕ) (log : List Event) (e : Event) → task_of e ≢ t → life_of t (log ++ e ∷ []) ≡ life_of t log
life_of-push_other t log e h = ap life (events_of-push_other t log e h)

-- a task without events
pub unborn_without : (t : ℕ) (log : List Event) → events_of t log ≡ [] → life_of t log ≡ unborn
unfolding life
unborn_without t log h = ap life h

-- what a life says, by its own events
pub origin_of : (t : ℕ) (log : List Event) → (life_of t log).origin ≡ last_of origin_in (events_of t log)
unfolding life
origin_of t log = refl

-- only an event that makes the task changes where it comes from
pub origin-push : (t : ℕ) (log : List Event) (e : Event) → origin_in e ≡ None → (life_of t (log ++ e ∷ [])).origin ≡ (life_of t log).origin
origin-push t log e none = elim (cases_eq (task_of e) t) [
  | inl same ↦ (ap (λ (l : Life). l.origin) (life_of-push_same t log e same) ∙ rw none refl)
  | inr other ↦ ap (λ (l : Life). l.origin) (life_of-push_other t log e other)
]

pub parent_of-push : (t : ℕ) (log : List Event) (e : Event) → origin_in e ≡ None → parent_of t (log ++ e ∷ []) ≡ parent_of t log
parent_of-push t log e none = ap parent_by (origin-push t log e none)

pub parent_of-push_other : (t : ℕ) (log : List Event) (e : Event) → task_of e ≢ t → parent_of t (log ++ e ∷ []) ≡ parent_of t log
parent_of-push_other t log e other = ap (λ (l : Life). parent_by l.origin) (life_of-push_other t log e other)

pub parent_of-push_child : (t o : TaskId) (g : ℕ) (p : Priority) (log : List Event) → parent_of t.0 (log ++ Child t o g p ∷ []) ≡ Some (o.0, g)
parent_of-push_child t o g p log = ap (λ (l : Life). parent_by l.origin) (life_of-push_same t.0 log (Child t o g p) refl)

-- how many numbers are taken

abbrev one_if : Bool → ℕ
one_if b = cond b 1 0

pub tasks_of-push_made : (roots : ℕ) (log : List Event) (e : Event) → is_made e ≡ true → tasks_of roots (log ++ e ∷ []) ≡ tasks_of roots log + 1
tasks_of-push_made roots log e h = let s = sum_by_push (λ (x : Event). cond (is_made x) 1 0) log e in let one : one_if (is_made e) ≡ 1 = rw h refl in omega (arith, s, one)

pub tasks_of-push_other : (roots : ℕ) (log : List Event) (e : Event) → is_made e ≡ false → tasks_of roots (log ++ e ∷ []) ≡ tasks_of roots log
tasks_of-push_other roots log e h = let s = sum_by_push (λ (x : Event). cond (is_made x) 1 0) log e in let none : one_if (is_made e) ≡ 0 = rw h refl in omega (arith, s, none)

-- an event of a number that is taken says nothing of those that are not
pub none_beyond : (n : ℕ) (log : List Event) (e : Event) → task_of e < n → ((t : ℕ) → n ≤ t → events_of t log ≡ []) → (t : ℕ) → n ≤ t → events_of t (log ++ e ∷ []) ≡ []
none_beyond n log e h none t le = let ne : task_of e ≢ t = omega arith in events_of-push_other t log e ne ∙ none t le

-- lists that a log gives; the last list computes where the event is known

pub own_tasks-push : (t : ℕ) (log : List Event) (e : Event) → own_tasks t (log ++ e ∷ []) ≡ own_tasks t log ++ filter_map (own_in t) (e ∷ [])
own_tasks-push t log e = filter_map-append (own_in t) log (e ∷ [])

pub own_tasks-push_none : (t : ℕ) (log : List Event) (e : Event) → own_in t e ≡ None → own_tasks t (log ++ e ∷ []) ≡ own_tasks t log
own_tasks-push_none t log e = filter_map-push_none (own_in t) log e

pub own_tasks-push_same : (made by : TaskId) (p : Priority) (detached : Bool) (log : List Event) → own_tasks by.0 (log ++ Free made by p detached ∷ []) ≡ own_tasks by.0 log ++ made ∷ []
own_tasks-push_same made by p detached log = filter_map-push_some (own_in by.0) log (Free made by p detached) made (cond-true (by.0 == by.0) (Some made) None (eq-eqb by.0 by.0 refl))

pub own_tasks-push_other : (t : ℕ) (made by : TaskId) (p : Priority) (detached : Bool) (log : List Event) → by.0 ≢ t → own_tasks t (log ++ Free made by p detached ∷ []) ≡ own_tasks t log
own_tasks-push_other t made by p detached log h = filter_map-push_none (own_in t) log (Free made by p detached) (cond-false (by.0 == t) (Some made) None (ne_eqb by.0 t h))

pub waiters_of-push : (t : ℕ) (log : List Event) (e : Event) → waiters_of t (log ++ e ∷ []) ≡ waiters_of t log ++ filter_map (waiter_in t) (e ∷ [])
waiters_of-push t log e = filter_map-append (waiter_in t) log (e ∷ [])

pub waiters_of-push_none : (t : ℕ) (log : List Event) (e : Event) → waiter_in t e ≡ None → waiters_of t (log ++ e ∷ []) ≡ waiters_of t log
waiters_of-push_none t log e = filter_map-push_none (waiter_in t) log e

pub waiters_of-push_same : (waiter awaited : TaskId) (log : List Event) → waiters_of awaited.0 (log ++ Wait waiter awaited ∷ []) ≡ waiters_of awaited.0 log ++ waiter ∷ []
waiters_of-push_same waiter awaited log = filter_map-push_some (waiter_in awaited.0) log (Wait waiter awaited) waiter (cond-true (awaited.0 == awaited.0) (Some waiter) None (eq-eqb awaited.0 awaited.0 refl))

pub waiters_of-push_other : (t : ℕ) (waiter awaited : TaskId) (log : List Event) → awaited.0 ≢ t → waiters_of t (log ++ Wait waiter awaited ∷ []) ≡ waiters_of t log
waiters_of-push_other t waiter awaited log h = filter_map-push_none (waiter_in t) log (Wait waiter awaited) (cond-false (awaited.0 == t) (Some waiter) None (ne_eqb awaited.0 t h))

pub links_of-push : (log : List Event) (e : Event) → links_of (log ++ e ∷ []) ≡ links_of log ++ filter_map link_in (e ∷ [])
links_of-push log e = filter_map-append link_in log (e ∷ [])

pub links_of-push_some : (log : List Event) (e : Event) (link : Link) → link_in e ≡ Some link → links_of (log ++ e ∷ []) ≡ links_of log ++ link ∷ []
links_of-push_some log e link = filter_map-push_some link_in log e link

pub links_of-push_none : (log : List Event) (e : Event) → link_in e ≡ None → links_of (log ++ e ∷ []) ≡ links_of log
links_of-push_none log e = filter_map-push_none link_in log e

pub children_of-push : (o g : ℕ) (log : List Event) (e : Event) → children_of o g (log ++ e ∷ []) ≡ children_of o g log ++ filter_map (child_in o g) (e ∷ [])
children_of-push o g log e = filter_map-append (child_in o g) log (e ∷ [])

pub children_of-push_some : (o g : ℕ) (log : List Event) (e : Event) (t : TaskId) → child_in o g e ≡ Some t → children_of o g (log ++ e ∷ []) ≡ children_of o g log ++ t ∷ []
children_of-push_some o g log e t = filter_map-push_some (child_in o g) log e t

pub children_of-push_none : (o g : ℕ) (log : List Event) (e : Event) → child_in o g e ≡ None → children_of o g (log ++ e ∷ []) ≡ children_of o g log
children_of-push_none o g log e = filter_map-push_none (child_in o g) log e

-- counts

pub opened_by-push : (o : ℕ) (log : List Event) (e : Event) → opened_by o (log ++ e ∷ []) ≡ opened_by o log + cond (opens o e) 1 0
opened_by-push o log e = sum_by_push (λ (x : Event). cond (opens o x) 1 0) log e

pub opened_by-push_yes : (o : ℕ) (log : List Event) (e : Event) → opens o e ≡ true → opened_by o (log ++ e ∷ []) ≡ opened_by o log + 1
opened_by-push_yes o log e h = opened_by-push o log e ∙ rw h refl

pub opened_by-push_no : (o : ℕ) (log : List Event) (e : Event) → opens o e ≡ false → opened_by o (log ++ e ∷ []) ≡ opened_by o log
opened_by-push_no o log e h = let s = opened_by-push o log e in let none : one_if (opens o e) ≡ 0 = rw h refl in omega (arith, s, none)

pub asked_of-push : (o g : ℕ) (log : List Event) (e : Event) → asked_of o g (log ++ e ∷ []) ≡ asked_of o g log + cond (asks o g e) 1 0
asked_of-push o g log e = sum_by_push (λ (x : Event). cond (asks o g x) 1 0) log e

pub asked_of-push_yes : (o g : ℕ) (log : List Event) (e : Event) → asks o g e ≡ true → asked_of o g (log ++ e ∷ []) ≡ asked_of o g log + 1
asked_of-push_yes o g log e h = asked_of-push o g log e ∙ rw h refl

pub asked_of-push_no : (o g : ℕ) (log : List Event) (e : Event) → asks o g e ≡ false → asked_of o g (log ++ e ∷ []) ≡ asked_of o g log
asked_of-push_no o g log e h = let s = asked_of-push o g log e in let none : one_if (asks o g e) ≡ 0 = rw h refl in omega (arith, s, none)

-- tests

pub is_closed-push : (o g : ℕ) (log : List Event) (e : Event) → is_closed o g (log ++ e ∷ []) ≡ (is_closed o g log || closes o g e)
is_closed-push o g log e = list_any-push (closes o g) log e

pub is_closed-push_no : (o g : ℕ) (log : List Event) (e : Event) → closes o g e ≡ false → is_closed o g (log ++ e ∷ []) ≡ is_closed o g log
is_closed-push_no o g log e = list_any-push_no (closes o g) log e

pub is_named_group-push : (o g : ℕ) (log : List Event) (e : Event) → is_named_group o g (log ++ e ∷ []) ≡ (is_named_group o g log || names_group o g e)
is_named_group-push o g log e = list_any-push (names_group o g) log e

pub is_named_group-push_no : (o g : ℕ) (log : List Event) (e : Event) → names_group o g e ≡ false → is_named_group o g (log ++ e ∷ []) ≡ is_named_group o g log
is_named_group-push_no o g log e = list_any-push_no (names_group o g) log e

pub is_named-push : (t : ℕ) (log : List Event) (e : Event) → is_named t (log ++ e ∷ []) ≡ (is_named t log || names_task t e)
is_named-push t log e = list_any-push (names_task t) log e

pub is_named-push_no : (t : ℕ) (log : List Event) (e : Event) → names_task t e ≡ false → is_named t (log ++ e ∷ []) ≡ is_named t log
is_named-push_no t log e = list_any-push_no (names_task t) log e

-- what is known of each task

pub length-lives_of : (n : ℕ) (log : List Event) → length (lives_of n log) ≡ n
unfolding lives_of
length-lives_of n log = length-map-range_with_len (λ t. life_of t log) 0 n

pub get_or-lives_of : (n : ℕ) (log : List Event) (k : ℕ) (d : Life) → k < n → get_or (lives_of n log) k d ≡ life_of k log
unfolding lives_of
get_or-lives_of n log k d h = get_or-map-range_with_len (λ t. life_of t log) 0 n k k d h (omega arith)

-- a list that has each life at its place
pub is_lives_of : (n : ℕ) (log : List Event) (xs : List Life) (d : Life) → length xs ≡ n → ((k : ℕ) → k < n → get_or xs k d ≡ life_of k log) → xs ≡ lives_of n log
unfolding lives_of
is_lives_of n log xs d long each = fill_by_all (λ t. life_of t log) xs n d long each

pub lives_of_none : (n : ℕ) → replicate n unborn ≡ lives_of n []
lives_of_none n = is_lives_of n [] (replicate n unborn) unborn (length-replicate n unborn) (λ k h. get_or-replicate n k unborn unborn h ∙ sym (unborn_without k [] refl))

-- one place is written
pub lives_of-push : (n : ℕ) (log : List Event) (e : Event) → task_of e < n → set (lives_of n log) (task_of e) (lived (life_of (task_of e) log) e) ≡ lives_of n (log ++ e ∷ [])
lives_of-push n log e h =
    let y : Life = lived (life_of (task_of e) log) e in
    is_lives_of n (log ++ e ∷ []) _ unborn
    (length-set (lives_of n log) (task_of e) y ∙ length-lives_of n log)
    (λ k lt. elim (cases_eq k (task_of e)) [
      | inl eq ↦ (let there : task_of e < length (lives_of n log) = rw (length-lives_of n log) h in
          rw eq (get_or-set_same (lives_of n log) (task_of e) y unborn there ∙ sym (life_of-push_same (task_of e) log e refl)))
      | inr ne ↦ get_or-set_other (lives_of n log) (task_of e) k y unborn ne ∙ get_or-lives_of n log k unborn lt ∙ sym (life_of-push_other k log e (λ q. ne (sym q)))
    ])

-- an event of another task changes no life of these
pub lives_of-push_other : (n : ℕ) (log : List Event) (e : Event) → n ≤ task_of e → lives_of n (log ++ e ∷ []) ≡ lives_of n log
lives_of-push_other n log e h = is_lives_of n log (lives_of n (log ++ e ∷ [])) unborn (length-lives_of n (log ++ e ∷ []))
    (λ k lt. get_or-lives_of n (log ++ e ∷ []) k unborn lt ∙ life_of-push_other k log e (let ne : task_of e ≢ k = omega arith in ne))

lives_of_more : (n : ℕ) (log : List Event) → lives_of (n + 1) log ≡ lives_of n log ++ life_of n log ∷ []
unfolding lives_of
lives_of_more n log = map-range_with_len_more (λ t. life_of t log) 0 n n (omega arith)

-- one task is made
pub lives_of-push_made : (n : ℕ) (log : List Event) (e : Event) → task_of e ≡ n → events_of n log ≡ [] → lives_of (n + 1) (log ++ e ∷ []) ≡ lives_of n log ++ lived unborn e ∷ []
lives_of-push_made n log e at none =
    let le : n ≤ task_of e = omega arith in
    let made : life_of n (log ++ e ∷ []) ≡ lived unborn e = life_of-push_same n log e at ∙ ap (λ (l : Life). lived l e) (unborn_without n log none) in
    lives_of_more n (log ++ e ∷ []) ∙ ap (λ (xs : List Life). xs ++ life_of n (log ++ e ∷ []) ∷ []) (lives_of-push_other n log e le) ∙ ap (λ (l : Life). lives_of n log ++ l ∷ []) made

-- sums over lives: where one place is written, and where one task is made

pub sum_of_lives-push : (f : Life → ℕ) (n : ℕ) (log : List Event) (e : Event) → task_of e < n → sum_by f (lives_of n (log ++ e ∷ [])) + f (life_of (task_of e) log) ≡ sum_by f (lives_of n log) + f (life_of (task_of e) (log ++ e ∷ []))
sum_of_lives-push f n log e h =
    let y : Life = lived (life_of (task_of e) log) e in
    let there : task_of e < length (lives_of n log) = rw (length-lives_of n log) h in
    let s = sum_by-set f (lives_of n log) (task_of e) y unborn there in
    let was = ap f (get_or-lives_of n log (task_of e) unborn h) in
    let now = ap f (life_of-push_same (task_of e) log e refl) in
    let all = ap (sum_by f) (lives_of-push n log e h) in
    omega (arith, s, was, now, all)

pub sum_of_lives-push_made : (f : Life → ℕ) (n : ℕ) (log : List Event) (e : Event) → task_of e ≡ n → events_of n log ≡ [] → sum_by f (lives_of (n + 1) (log ++ e ∷ [])) ≡ sum_by f (lives_of n log) + f (lived unborn e)
sum_of_lives-push_made f n log e at none = ap (sum_by f) (lives_of-push_made n log e at none) ∙ sum_by_push f (lives_of n log) (lived unborn e)

-- what one task counts is no more than what all count
pub life_le_sum : (f : Life → ℕ) (n : ℕ) (log : List Event) (t : ℕ) → t < n → f (life_of t log) ≤ sum_by f (lives_of n log)
life_le_sum f n log t h =
    let there : t < length (lives_of n log) = rw (length-lives_of n log) h in
    let le = get_or-le-sum_by f (lives_of n log) t unborn there in
    let was = ap f (get_or-lives_of n log t unborn h) in
    omega (arith, le, was)

pub reserved_of-push : (roots : ℕ) (log : List Event) (e : Event) → is_made e ≡ false → task_of e < tasks_of roots log → reserved_of roots (log ++ e ∷ []) + room_held (life_of (task_of e) log) ≡ reserved_of roots log + room_held (life_of (task_of e) (log ++ e ∷ []))
reserved_of-push roots log e not_made h =
    let s = sum_of_lives-push room_held (tasks_of roots log) log e h in
    let same = ap (λ n. sum_by room_held (lives_of n (log ++ e ∷ []))) (tasks_of-push_other roots log e not_made) in
    omega (arith, s, same)

pub reserved_of-push_made : (roots : ℕ) (log : List Event) (e : Event) → is_made e ≡ true → task_of e ≡ tasks_of roots log → events_of (tasks_of roots log) log ≡ [] → reserved_of roots (log ++ e ∷ []) ≡ reserved_of roots log + room_held (lived unborn e)
reserved_of-push_made roots log e made at none =
    ap (λ n. sum_by room_held (lives_of n (log ++ e ∷ []))) (tasks_of-push_made roots log e made) ∙ sum_of_lives-push_made room_held (tasks_of roots log) log e at none

pub open_of-push : (roots : ℕ) (log : List Event) (e : Event) → is_made e ≡ false → task_of e < tasks_of roots log → open_of roots (log ++ e ∷ []) + cond (is_open (life_of (task_of e) log)) 1 0 ≡ open_of roots log + cond (is_open (life_of (task_of e) (log ++ e ∷ []))) 1 0
open_of-push roots log e not_made h =
    let s = sum_of_lives-push (λ l. cond (is_open l) 1 0) (tasks_of roots log) log e h in
    let same = ap (λ n. sum_by (λ l. cond (is_open l) 1 0) (lives_of n (log ++ e ∷ []))) (tasks_of-push_other roots log e not_made) in
    omega (arith, s, same)

pub open_of-push_made : (roots : ℕ) (log : List Event) (e : Event) → is_made e ≡ true → task_of e ≡ tasks_of roots log → events_of (tasks_of roots log) log ≡ [] → open_of roots (log ++ e ∷ []) ≡ open_of roots log + cond (is_open (lived unborn e)) 1 0
open_of-push_made roots log e made at none =
    ap (λ n. sum_by (λ l. cond (is_open l) 1 0) (lives_of n (log ++ e ∷ []))) (tasks_of-push_made roots log e made) ∙ sum_of_lives-push_made (λ l. cond (is_open l) 1 0) (tasks_of roots log) log e at none

-- what an empty log counts
pub sum_of_none : (f : Life → ℕ) → f unborn ≡ 0 → (n : ℕ) → sum_by f (lives_of n []) ≡ 0
sum_of_none f none n = ap (sum_by f) (sym (lives_of_none n)) ∙ sum_by-replicate f n unborn ∙ rw none (omega arith)
