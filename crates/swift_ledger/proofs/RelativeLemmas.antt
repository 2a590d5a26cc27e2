-- The lists of a task's own tasks and waiters, and the groups, once one more event is written.
use Rattle.swift_ledger.proofs.Prelude.{◌≡◌, ◌≢◌, ℕ, ◌+◌, ◌<◌, ◌≤◌, List, [], ◌∷◌, ◌++◌, length, refl, sym, ◌∙◌, arith, false, inl, inr, subst, Option, Some, None, slice_get, IfSome, All, filter_map, cons_option, cases_eq, false≢true, slice_get_within, get_or_from_slice_get, TASKS, TaskId, Event, Free, Wait, own_in, own_tasks, waiter_in, waiters_of, own_tasks-push_none, own_tasks-push_same, own_tasks-push_other, waiters_of-push_none, waiters_of-push_same, waiters_of-push_other, CanNote, IsWellFormed, pushed, own_pair, waiter_pair, has_any}
use Rattle.swift_ledger.proofs.FormLemmas.{made_few}
use Rattle.swift_ledger.proofs.ListLemmas.{pushed_same, pushed_other}

length-cons_option : {X : Type 0} (x : Option X) (xs : List X) → length (cons_option x xs) ≤ length xs + 1
length-cons_option None xs = omega arith
length-cons_option (Some x) xs = omega arith

pub length-filter_map : {X Y : Type 0} (h : X → Option Y) (xs : List X) → length (filter_map h xs) ≤ length xs
length-filter_map h [] = omega arith
length-filter_map h (x ∷ xs) = omega (arith, length-cons_option (h x) (filter_map h xs), length-filter_map h xs)

own_pushed_by : (t : ℕ) (log : List Event) (made by : TaskId) (e : Event) → own_tasks by.0 (log ++ e ∷ []) ≡ own_tasks by.0 log ++ made ∷ [] → (by.0 ≢ t → own_tasks t (log ++ e ∷ []) ≡ own_tasks t log) → pushed (λ k. own_tasks k log) by made t ≡ own_tasks t (log ++ e ∷ [])
own_pushed_by t log made by e same other = elim (cases_eq by.0 t) [
  | inl here ↦ pushed_same (λ k. own_tasks k log) by made t here ∙ sym (subst (λ (k : ℕ). own_tasks k (log ++ e ∷ []) ≡ own_tasks k log ++ made ∷ []) here same)
  | inr there ↦ pushed_other (λ k. own_tasks k log) by made t there ∙ sym (other there)
]

pub own_pushed : (t : ℕ) (log : List Event) (e : Event) (x : TaskId × TaskId) → own_pair e ≡ Some x → pushed (λ k. own_tasks k log) x.0 x.1 t ≡ own_tasks t (log ++ e ∷ [])
own_pushed t log (Free made by p d) x is =
    let same : (by, made) ≡ x = cc in
    subst (λ (y : TaskId × TaskId). pushed (λ k. own_tasks k log) y.0 y.1 t ≡ own_tasks t (log ++ Free made by p d ∷ [])) same
    (own_pushed_by t log made by (Free made by p d) (own_tasks-push_same made by p d log) (own_tasks-push_other t made by p d log))
own_pushed t log _ x is = absurd (cc)

own_none : (t : ℕ) (e : Event) → own_pair e ≡ None → own_in t e ≡ None
own_none t (Free made by p d) is = absurd (cc)
own_none t _ is = refl

pub own_same : (t : ℕ) (log : List Event) (e : Event) → own_pair e ≡ None → own_tasks t log ≡ own_tasks t (log ++ e ∷ [])
own_same t log e is = sym (own_tasks-push_none t log e (own_none t e is))

waiter_pushed_by : (t : ℕ) (log : List Event) (waiter awaited : TaskId) (e : Event) → waiters_of awaited.0 (log ++ e ∷ []) ≡ waiters_of awaited.0 log ++ waiter ∷ [] → (awaited.0 ≢ t → waiters_of t (log ++ e ∷ []) ≡ waiters_of t log) → pushed (λ k. waiters_of k log) awaited waiter t ≡ waiters_of t (log ++ e ∷ [])
waiter_pushed_by t log waiter awaited e same other = elim (cases_eq awaited.0 t) [
  | inl here ↦ pushed_same (λ k. waiters_of k log) awaited waiter t here ∙ sym (subst (λ (k : ℕ). waiters_of k (log ++ e ∷ []) ≡ waiters_of k log ++ waiter ∷ []) here same)
  | inr there ↦ pushed_other (λ k. waiters_of k log) awaited waiter t there ∙ sym (other there)
]

pub waiter_pushed : (t : ℕ) (log : List Event) (e : Event) (x : TaskId × TaskId) → waiter_pair e ≡ Some x → pushed (λ k. waiters_of k log) x.0 x.1 t ≡ waiters_of t (log ++ e ∷ [])
waiter_pushed t log (Wait waiter awaited) x is =
    let same : (awaited, waiter) ≡ x = cc in
    subst (λ (y : TaskId × TaskId). pushed (λ k. waiters_of k log) y.0 y.1 t ≡ waiters_of t (log ++ Wait waiter awaited ∷ [])) same
    (waiter_pushed_by t log waiter awaited (Wait waiter awaited) (waiters_of-push_same waiter awaited log) (waiters_of-push_other t waiter awaited log))
waiter_pushed t log _ x is = absurd (cc)

waiter_none : (t : ℕ) (e : Event) → waiter_pair e ≡ None → waiter_in t e ≡ None
waiter_none t (Wait waiter awaited) is = absurd (cc)
waiter_none t _ is = refl

pub waiter_same : (t : ℕ) (log : List Event) (e : Event) → waiter_pair e ≡ None → waiters_of t log ≡ waiters_of t (log ++ e ∷ [])
waiter_same t log e is = sym (waiters_of-push_none t log e (waiter_none t e is))

-- the task whose list gets longer has a number that a run may have

pub own_known : (roots : ℕ) (log : List Event) (e : Event) (x : TaskId × TaskId) → IsWellFormed roots log → CanNote roots log e → own_pair e ≡ Some x → x.0.0 < TASKS
own_known roots log (Free made by p d) x form can is = (let same : (by, made) ≡ x = cc in subst (λ (y : TaskId × TaskId). y.0.0 < TASKS) same (made_few roots log by form can.1))
own_known roots log _ x form can is = absurd (cc)

pub waiter_known : (roots : ℕ) (log : List Event) (e : Event) (x : TaskId × TaskId) → IsWellFormed roots log → CanNote roots log e → waiter_pair e ≡ Some x → x.0.0 < TASKS
waiter_known roots log (Wait waiter awaited) x form can is = (let same : (awaited, waiter) ≡ x = cc in subst (λ (y : TaskId × TaskId). y.0.0 < TASKS) same (made_few roots log awaited form can.1))
waiter_known roots log _ x form can is = absurd (cc)

-- what holds of each holds of the one that is read
pub all_read : (P : TaskId → Type 0) (xs : List TaskId) (i : ℕ) (r : Option TaskId) → All P xs → r ≡ slice_get xs i → IfSome r P
all_read P xs i None all is = tt
all_read P xs i (Some x) all is = subst P (get_or_from_slice_get xs i x x (sym is)) (all i x (slice_get_within xs i x (sym is)))

pub none_if_not_any : (xs : List TaskId) → has_any xs ≡ false → xs ≡ []
none_if_not_any [] h = refl
none_if_not_any (x ∷ xs) h = absurd (false≢true (sym h))
