-- What is read of cancelled tasks off a log.
use Rattle.swift_explorer.proofs.Prelude.{◌≡◌, ◌<◌, ℕ, zero, suc, ◌+◌, List, [], ◌∷◌, length, refl, sym, ◌∙◌, ap, subst, Bool, true, false, arith, Option, Some, ◌||◌, slice_index_or, list_any, false≢true, TaskId, Event, Origin, life_of, cancelled_below, cancelled_within, is_named, is_named_group, of_parent, parent_by, parent_of}
use Rattle.swift_events.specs.declared.life.Origin.TheVariants.{Child}

or_first : (a b : Bool) → a ≡ true → (a || b) ≡ true
or_first true b is = refl
or_first false b is = absurd (false≢true is)

or_second : (a b : Bool) → b ≡ true → (a || b) ≡ true
or_second true b is = refl
or_second false b is = is

-- a task is cancelled where it is named, where its group is, and where its owner is cancelled

pub below_named : (n t : ℕ) (log : List Event) → is_named t log ≡ true → cancelled_below n t log ≡ true
below_named n t log is = or_first (is_named t log) _ is

by_parent : (n t : ℕ) (log : List Event) (o : TaskId) (g : ℕ) → (life_of t log).origin ≡ Some (Child o g) → (is_named_group o.0 g log || cancelled_within n o.0 log) ≡ true → cancelled_below n t log ≡ true
by_parent n t log o g from is =
    or_second (is_named t log) (of_parent (parent_of t log) (λ o g. is_named_group o g log || cancelled_within n o log))
    (ap (λ (x : Option Origin). of_parent (parent_by x) (λ o g. is_named_group o g log || cancelled_within n o log)) from ∙ is)

pub below_group : (n t : ℕ) (log : List Event) (o : TaskId) (g : ℕ) → (life_of t log).origin ≡ Some (Child o g) → is_named_group o.0 g log ≡ true → cancelled_below n t log ≡ true
below_group n t log o g from is = by_parent n t log o g from (or_first (is_named_group o.0 g log) (cancelled_within n o.0 log) is)

pub below_owner : (n m t : ℕ) (log : List Event) (o : TaskId) (g : ℕ) → m + 1 ≡ n → (life_of t log).origin ≡ Some (Child o g) → cancelled_below m o.0 log ≡ true → cancelled_below n t log ≡ true
below_owner n m t log o g next from is =
    let one : suc m ≡ n = omega (arith, next) in
    by_parent n t log o g from (or_second (is_named_group o.0 g log) (cancelled_within n o.0 log) (subst (λ (k : ℕ). cancelled_within k o.0 log ≡ true) one is))

-- an event of the log passes a test

any_at : (p : Event → Bool) (log : List Event) (k : ℕ) (d : Event) → k < length log → p (slice_index_or log k d) ≡ true → list_any p log ≡ true
any_at p [] k d lt is = absurd (omega (arith, lt))
any_at p (e ∷ es) zero d lt is = or_first (p e) (list_any p es) is
any_at p (e ∷ es) (suc k) d lt is = or_second (p e) (list_any p es) (any_at p es k d (omega (arith, lt)) is)

pub any_event : (p : Event → Bool) (log : List Event) (k : ℕ) (e : Event) → k < length log → ((d : Event) → e ≡ slice_index_or log k d) → p e ≡ true → list_any p log ≡ true
any_event p log k e lt at is = any_at p log k e lt (ap p (sym (at e)) ∙ is)
