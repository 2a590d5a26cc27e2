-- What one more event changes of the endings in a group.
use Rattle.std.proofs.Common.{◌≡◌, ℕ, List, Option, None, Some, [], ◌∷◌, ◌++◌, Bool, true, false, ◌||◌, ◌&&◌, cond, eqb, refl, ap, sym, ◌∙◌, inl, inr}
use Rattle.std.proofs.lemmas.Bool.{cases_Bool, cond-true, cond-false, eq-eqb, ne_eqb, true≢false}
use Rattle.std.proofs.lemmas.List.Elements.{filter_map-append}
use Rattle.std.proofs.lemmas.List.Folds.{list_any-append}
use Rattle.std.proofs.lemmas.List.{append-nil}
use Rattle.std.specs.List.{filter_map, cons_option, list_any}
use Rattle.swift_types.specs.declared.id.TaskId.{TaskId}
use Rattle.swift_types.specs.declared.outcome.Ending.{Ending}
use Rattle.swift_types.specs.declared.priority.Priority.{Priority}
use Rattle.swift_groups.specs.Groups.{is_among, has_ended}
use Rattle.swift_events.specs.declared.event.Event.{Event}
use Rattle.swift_events.specs.declared.event.Event.TheVariants.{Child, End}
use Rattle.swift_events.specs.Events.{task_of, events_of, last_of, later}
use Rattle.swift_events.specs.Lives.{life, life_of, ending_in}
use Rattle.swift_events.specs.Relations.{children_of, ending_among, endings_of}
use Rattle.swift_events.proofs.LogLemmas.{children_of-push}

-- endings, where the children stay
pub endings_of-push_kept : (o g : ℕ) (log : List Event) (e : Event) → children_of o g (log ++ e ∷ []) ≡ children_of o g log
    → endings_of o g (log ++ e ∷ []) ≡ endings_of o g log ++ filter_map (ending_among (children_of o g log)) (e ∷ [])
endings_of-push_kept o g log e h =
    ap (λ (cs : List TaskId). filter_map (ending_among cs) (log ++ e ∷ [])) h ∙ filter_map-append (ending_among (children_of o g log)) log (e ∷ [])

-- the events of a task that has none
no_event : (t : ℕ) (x : Event) (xs : List Event) → events_of t (x ∷ xs) ≡ [] → (eqb (task_of x) t ≡ false) × (events_of t xs ≡ [])
no_event t x xs h = elim (cases_Bool (eqb (task_of x) t)) [
  | inl y ↦ absurd (cc (h, cond-true (eqb (task_of x) t) (x ∷ events_of t xs) (events_of t xs) y))
  | inr n ↦ (n, sym (cond-false (eqb (task_of x) t) (x ∷ events_of t xs) (events_of t xs) n) ∙ h)
]

or_false : (b : Bool) → b || false ≡ b
or_false true = refl
or_false false = refl

pub is_among-push : (a : List TaskId) (t u : TaskId) → is_among (a ++ t ∷ []) u ≡ is_among a u || eqb t.0 u.0
is_among-push a t u = list_any-append (λ x. eqb x.0 u.0) a (t ∷ []) ∙ ap (λ (b : Bool). is_among a u || b) (or_false (eqb t.0 u.0))

pub is_among-by : (a : List TaskId) (t u : TaskId) → t.0 ≡ u.0 → is_among a t ≡ is_among a u
is_among-by a t u h = ap (λ (n : ℕ). list_any (λ x. eqb x.0 n) a) h

-- a new child adds no ending of an older event
ending_of_another : (cs : List TaskId) (t : TaskId) (x : Event) → eqb (task_of x) t.0 ≡ false → ending_among (cs ++ t ∷ []) x ≡ ending_among cs x
ending_of_another cs t (End u ending) h =
    let test : eqb t.0 u.0 ≡ false = ne_eqb t.0 u.0 (λ (q : t.0 ≡ u.0). true≢false (sym (eq-eqb u.0 t.0 (sym q)) ∙ h)) in
    ap (λ (b : Bool). cond b (Some (u, ending)) None) (is_among-push cs t u ∙ ap (λ (b : Bool). is_among cs u || b) test ∙ or_false (is_among cs u))
ending_of_another cs t _ h = refl

endings_kept : (cs : List TaskId) (t : TaskId) (log : List Event) → events_of t.0 log ≡ [] → filter_map (ending_among (cs ++ t ∷ [])) log ≡ filter_map (ending_among cs) log
endings_kept cs t [] h = refl
endings_kept cs t (x ∷ xs) h =
    let parts = no_event t.0 x xs h in
    ap (λ (o : Option (TaskId × Ending)). cons_option o (filter_map (ending_among (cs ++ t ∷ [])) xs)) (ending_of_another cs t x parts.0)
    ∙ ap (cons_option (ending_among cs x)) (endings_kept cs t xs parts.1)

pub endings_of-push_child : (o g : ℕ) (log : List Event) (t owner : TaskId) (group : ℕ) (p : Priority) → events_of t.0 log ≡ [] → endings_of o g (log ++ Child t owner group p ∷ []) ≡ endings_of o g log
endings_of-push_child o g log t owner group p new = elim (cases_Bool (eqb owner.0 o && eqb group g)) [
  | inl y ↦
      let more : children_of o g (log ++ Child t owner group p ∷ []) ≡ children_of o g log ++ t ∷ [] =
      children_of-push o g log (Child t owner group p)
      ∙ ap (λ (x : Option TaskId). children_of o g log ++ cons_option x []) (cond-true (eqb owner.0 o && eqb group g) (Some t) None y) in
      ap (λ (cs : List TaskId). filter_map (ending_among cs) (log ++ Child t owner group p ∷ [])) more
      ∙ filter_map-append (ending_among (children_of o g log ++ t ∷ [])) log (Child t owner group p ∷ [])
      ∙ append-nil (filter_map (ending_among (children_of o g log ++ t ∷ [])) log)
      ∙ endings_kept (children_of o g log) t log new
  | inr n ↦
      let same : children_of o g (log ++ Child t owner group p ∷ []) ≡ children_of o g log =
      children_of-push o g log (Child t owner group p)
      ∙ ap (λ (x : Option TaskId). children_of o g log ++ cons_option x []) (cond-false (eqb owner.0 o && eqb group g) (Some t) None n)
      ∙ append-nil (children_of o g log) in
      endings_of-push_kept o g log (Child t owner group p) same ∙ append-nil (endings_of o g log)
]

-- what the last of a task's events says
last_of-cons : {A : Type 0} (says : Event → Option A) (t : ℕ) (x : Event) (xs : List Event)
    → last_of says (events_of t (x ∷ xs)) ≡ cond (eqb (task_of x) t) (later (last_of says (events_of t xs)) (says x)) (last_of says (events_of t xs))
last_of-cons {A} says t x xs = elim (cases_Bool (eqb (task_of x) t)) [
  | inl y ↦ ap (last_of says) (cond-true (eqb (task_of x) t) (x ∷ events_of t xs) (events_of t xs) y)
      ∙ sym (cond-true {A = Option A} (eqb (task_of x) t) (later (last_of says (events_of t xs)) (says x)) (last_of says (events_of t xs)) y)
  | inr n ↦ ap (last_of says) (cond-false (eqb (task_of x) t) (x ∷ events_of t xs) (events_of t xs) n)
      ∙ sym (cond-false {A = Option A} (eqb (task_of x) t) (later (last_of says (events_of t xs)) (says x)) (last_of says (events_of t xs)) n)
]

later_none : {A : Type 0} (x y : Option A) → later x y ≡ None → (x ≡ None) × (y ≡ None)
later_none (Some x) y h = absurd (cc h)
later_none None y h = (refl, h)

-- a task that has not ended has no ending in the log
step_unended : (cs : List TaskId) (t : TaskId) (x : Event) (ys : List (TaskId × Ending)) → has_ended ys t ≡ false → (eqb (task_of x) t.0 ≡ true → ending_in x ≡ None)
    → has_ended (cons_option (ending_among cs x) ys) t ≡ false
step_unended cs t (End u ending) ys h none = elim (cases_Bool (is_among cs u)) [
  | inl y ↦
      ap (λ (o : Option (TaskId × Ending)). has_ended (cons_option o ys) t) (cond-true (is_among cs u) (Some (u, ending)) None y)
      ∙ ap (λ (b : Bool). b || has_ended ys t) (ne_eqb u.0 t.0 (λ (q : u.0 ≡ t.0). absurd (cc (none (eq-eqb u.0 t.0 q)))))
      ∙ h
  | inr n ↦ ap (λ (o : Option (TaskId × Ending)). has_ended (cons_option o ys) t) (cond-false (is_among cs u) (Some (u, ending)) None n) ∙ h
]
step_unended cs t _ ys h none = h

unended : (cs : List TaskId) (t : TaskId) (log : List Event) → last_of ending_in (events_of t.0 log) ≡ None → has_ended (filter_map (ending_among cs) log) t ≡ false
unended cs t [] h = refl
unended cs t (x ∷ xs) h =
    let split = sym (last_of-cons ending_in t.0 x xs) ∙ h in
    elim (cases_Bool (eqb (task_of x) t.0)) [
      | inl y ↦
          let parts = later_none (last_of ending_in (events_of t.0 xs)) (ending_in x) (sym (cond-true (eqb (task_of x) t.0) (later (last_of ending_in (events_of t.0 xs)) (ending_in x)) (last_of ending_in (events_of t.0 xs)) y) ∙ split) in
          step_unended cs t x (filter_map (ending_among cs) xs) (unended cs t xs parts.0) (λ z. parts.1)
      | inr n ↦
          let rest = sym (cond-false (eqb (task_of x) t.0) (later (last_of ending_in (events_of t.0 xs)) (ending_in x)) (last_of ending_in (events_of t.0 xs)) n) ∙ split in
          step_unended cs t x (filter_map (ending_among cs) xs) (unended cs t xs rest) (λ (z : eqb (task_of x) t.0 ≡ true). absurd (true≢false (sym z ∙ n)))
    ]

pub has_ended-unended : (o g : ℕ) (log : List Event) (t : TaskId) → (life_of t.0 log).ending ≡ None → has_ended (endings_of o g log) t ≡ false
unfolding life
has_ended-unended o g log t h = unended (children_of o g log) t log h
