-- Priorities know the tasks that were made.
use Rattle.swift_ledger.proofs.Prelude.{◌≡◌, ◌⊎◌, ℕ, List, [], ◌∷◌, refl, sym, ◌∙◌, ap, arith, true, false, inl, inr, subst, Err, Result, Option, Some, None, ◌==◌, IsSome, is_some, Contains, cases_Bool, eqb-true, eq-eqb, false≢true, Contains-append_left, Contains-append_right, Contains-push, Contains-push_cases, Contains-append_cases, TaskId, IsKnown, Event, Root, Free, Child, Wait, Life, task_of, events_of, last_of, later, tasks_of, life_of, origin_in, link_in, links_of, origin_of, IsMade, CanNote, IsWellFormed, CanLink}
use Rattle.swift_escalation.specs.declared.waits.PriorityEvent.{PriorityEvent as Link}
use Rattle.swift_escalation.specs.declared.waits.PriorityEvent.TheVariants as link
use Rattle.swift_escalation.specs.declared.waits.WaitsFault.{WaitsFault}
use Rattle.swift_escalation.specs.declared.waits.WaitsFault.TheVariants as fault
use Rattle.swift_escalation.specs.Waits as waits
use Rattle.swift_ledger.proofs.FormLemmas.{unmade_beyond}

some_first : {A : Type 0} (x y : Option A) → IsSome x → IsSome (later x y)
some_first (Some x) y h = refl
some_first None y h = absurd (false≢true h)

some_last : {A : Type 0} (x y : Option A) → IsSome y → IsSome (later x y)
some_last (Some x) y h = refl
some_last None y h = h

some_either : {A : Type 0} (x y : Option A) → IsSome (later x y) → IsSome x ⊎ IsSome y
some_either (Some x) y h = inl refl
some_either None y h = inr h

-- an event says where a task comes from
abbrev MakesTask : ℕ → Event → Type 0
MakesTask t e = (task_of e ≡ t) × IsSome (origin_in e)

origin_more : (t : ℕ) (e : Event) (es : List Event) → IsSome (last_of origin_in (events_of t es)) → IsSome (last_of origin_in (events_of t (e ∷ es)))
origin_more t e es h = elim (cases_Bool (task_of e == t)) [
  | inl own ↦ rw own (some_first (last_of origin_in (events_of t es)) (origin_in e) h)
  | inr other ↦ rw other h
]

origin_here : (t : ℕ) (e : Event) (es : List Event) → MakesTask t e → IsSome (last_of origin_in (events_of t (e ∷ es)))
origin_here t e es makes = rw (eq-eqb (task_of e) t makes.0) (some_last (last_of origin_in (events_of t es)) (origin_in e) makes.1)

origin_cases : (t : ℕ) (e : Event) (es : List Event) → IsSome (last_of origin_in (events_of t (e ∷ es))) → MakesTask t e ⊎ IsSome (last_of origin_in (events_of t es))
origin_cases t e es h = elim (cases_Bool (task_of e == t)) [
  | inl own ↦ (let either : IsSome (later (last_of origin_in (events_of t es)) (origin_in e)) = rw own at h in
      elim (some_either (last_of origin_in (events_of t es)) (origin_in e) either) [
        | inl before ↦ inr before
        | inr here ↦ inl (eqb-true (task_of e) t own, here)
      ])
  | inr other ↦ inr (let rest : IsSome (last_of origin_in (events_of t es)) = rw other at h in rest)
]

first_of_two : (r t : TaskId) (xs : List TaskId) → Contains (r ∷ xs) t → (r ≡ t) ⊎ Contains xs t
first_of_two r t xs h = elim (Contains-append_cases (r ∷ []) xs t h) [
  | inl first ↦ elim (Contains-push_cases [] r t first) [
    | inl none ↦ absurd (let k = none.1 in omega (arith, k))
    | inr same ↦ inl same
  ]
  | inr rest ↦ inr rest
]

contains_more : (r t : TaskId) (xs : List TaskId) → Contains xs t → Contains (r ∷ xs) t
contains_more r t xs h = Contains-append_right (r ∷ []) xs t h

contains_here : (r t : TaskId) (xs : List TaskId) → r.0 ≡ t.0 → Contains (r ∷ xs) t
contains_here r t xs same =
    let whole : r ≡ t = (let make : ℕ → TaskId = λ n. record { 0 = n } in ap make same) in
    subst (λ (u : TaskId). Contains (r ∷ xs) u) whole (Contains-append_left (r ∷ []) xs r (Contains-push [] r))

made_by : (t r : TaskId) (e : Event) (es : List Event) (xs : List TaskId) → task_of e ≡ r.0 → IsSome (origin_in e) → Contains (r ∷ xs) t → MakesTask t.0 e ⊎ Contains xs t
made_by t r e es xs at some h = elim (first_of_two r t xs h) [
  | inl same ↦ inl (at ∙ ap (λ (u : TaskId). u.0) same, some)
  | inr rest ↦ inr rest
]

known_cases : (t : TaskId) (e : Event) (es : List Event) → IsKnown (links_of (e ∷ es)) t → MakesTask t.0 e ⊎ IsKnown (links_of es) t
known_cases t (Root r p) es h = made_by t r (Root r p) es (waits.tasks_of (links_of es)) refl refl h
known_cases t (Free r by p true) es h = made_by t r (Free r by p true) es (waits.tasks_of (links_of es)) refl refl h
known_cases t (Free r by p false) es h = made_by t r (Free r by p false) es (waits.tasks_of (links_of es)) refl refl h
known_cases t (Child r o g p) es h = made_by t r (Child r o g p) es (waits.tasks_of (links_of es)) refl refl h
known_cases t _ es h = inr h

known_more : (t : TaskId) (e : Event) (es : List Event) → IsKnown (links_of es) t → IsKnown (links_of (e ∷ es)) t
known_more t (Root r p) es h = contains_more r t (waits.tasks_of (links_of es)) h
known_more t (Free r by p d) es h = contains_more r t (waits.tasks_of (links_of es)) h
known_more t (Child r o g p) es h = contains_more r t (waits.tasks_of (links_of es)) h
known_more t _ es h = h

known_here : (t : TaskId) (e : Event) (es : List Event) → MakesTask t.0 e → IsKnown (links_of (e ∷ es)) t
known_here t (Root r p) es makes = contains_here r t (waits.tasks_of (links_of es)) makes.0
known_here t (Free r by p d) es makes = contains_here r t (waits.tasks_of (links_of es)) makes.0
known_here t (Child r o g p) es makes = contains_here r t (waits.tasks_of (links_of es)) makes.0
known_here t _ es makes = absurd (false≢true makes.1)

origin_known : (t : TaskId) (log : List Event) → IsSome (last_of origin_in (events_of t.0 log)) → IsKnown (links_of log) t
origin_known t [] h = absurd (false≢true h)
origin_known t (e ∷ es) h = elim (origin_cases t.0 e es h) [
  | inl here ↦ known_here t e es here
  | inr rest ↦ known_more t e es (origin_known t es rest)
]

known_origin : (t : TaskId) (log : List Event) → IsKnown (links_of log) t → IsSome (last_of origin_in (events_of t.0 log))
known_origin t [] h = absurd (let k = h.1 in omega (arith, k))
known_origin t (e ∷ es) h = elim (known_cases t e es h) [
  | inl here ↦ origin_here t.0 e es here
  | inr rest ↦ origin_more t.0 e es (known_origin t es rest)
]

pub made_known : (log : List Event) (t : TaskId) → IsMade log t → IsKnown (links_of log) t
made_known log t made = origin_known t log (sym (ap is_some (origin_of t.0 log)) ∙ made)

pub known_made : (log : List Event) (t : TaskId) → IsKnown (links_of log) t → IsMade log t
known_made log t known = ap is_some (origin_of t.0 log) ∙ known_origin t log known

unknown_unmade : (log : List Event) (t : TaskId) → (life_of t.0 log).origin ≡ None → IsKnown (links_of log) t → ⊥
unknown_unmade log t none known = false≢true (sym (ap is_some none) ∙ known_made log t known)

unknown_next : (roots : ℕ) (log : List Event) (t : TaskId) → IsWellFormed roots log → t.0 ≡ tasks_of roots log → IsKnown (links_of log) t → ⊥
unknown_next roots log t form at = unknown_unmade log t (ap (λ (l : Life). l.origin) (unmade_beyond roots log t.0 form (omega (arith, at))))

-- a link of an event that may be written may be added
pub link_fits : (roots : ℕ) (log : List Event) (e : Event) (l : Link) → IsWellFormed roots log → CanNote roots log e → link_in e ≡ Some l → CanLink (links_of log) l
link_fits roots log (Root t p) l form can is = (let same : link.Root t p ≡ l = cc in subst (CanLink (links_of log)) same (unknown_unmade log t can.1))
link_fits roots log (Free t by p d) l form can is = (let same : link.Free t p ≡ l = cc in subst (CanLink (links_of log)) same (unknown_next roots log t form can.0))
link_fits roots log (Child t o g p) l form can is = (let same : link.Child t o p ≡ l = cc in subst (CanLink (links_of log)) same (made_known log o can.1, unknown_next roots log t form can.0))
link_fits roots log (Wait t awaited) l form can is = (let same : link.Wait t awaited ≡ l = cc in subst (CanLink (links_of log)) same (made_known log t can.0, made_known log awaited can.1))
link_fits roots log _ l form can is = absurd (cc)

-- a call is refused only for a cause
pub not_refused : (f : WaitsFault) (r : Result (Unit {0}) WaitsFault) → r ≡ Err f → (r ≡ Err fault.Unknown → ⊥) → (r ≡ Err fault.Known → ⊥) → (r ≡ Err fault.Memory → ⊥) → ⊥
not_refused fault.Unknown r is a b c = a is
not_refused fault.Known r is a b c = b is
not_refused fault.Memory r is a b c = c is
