-- A child of a group is unfinished where the task itself has not ended.
use Rattle.swift_digest.proofs.Prelude.{◌≡◌, List, [], ◌∷◌, refl, sym, ◌∙◌, ap, ap₂, Bool, true, false, inl, inr, Option, Some, None, ◌==◌, ◌||◌, is_some, not, if◌then◌else◌, cons_option, filter, filter_map, cases_Bool, cases_eq, eq-eqb, ne_eqb, filter_map-append, TaskId, Ending, has_ended, is_among, unfinished_of, Event, End, Life, task_of, later, life_of, ending_in, ending_among, is_among-by, life_of-push_same, life_of-push_other, unborn_without, said}
use Rattle.std.proofs.lemmas.List.Folds.{list_any-append}
use Rattle.swift_digest.proofs.Cards.{by_push}

or_false : (b : Bool) → b || false ≡ b
or_false true = refl
or_false false = refl

or_true : (b : Bool) → b || true ≡ true
or_true true = refl
or_true false = refl

some_later : {A : Type 0} (x y : Option A) → is_some (later x y) ≡ is_some y || is_some x
some_later (Some x) y = sym (or_true (is_some y))
some_later None y = sym (or_false (is_some y))

-- an event of a child says that it has ended where it is the child's end
says_own : (cs : List TaskId) (t : TaskId) (e : Event) → is_among cs t ≡ true → task_of e ≡ t.0 → has_ended (said (ending_among cs) e) t ≡ is_some (ending_in e)
says_own cs t (End u x) among same =
    let there : is_among cs u ≡ true = is_among-by cs u t same ∙ among in
    ap (λ (b : Bool). has_ended (cons_option (if b then Some (u, x) else None) []) t) there ∙ ap (λ (b : Bool). b || false) (eq-eqb u.0 t.0 same)
says_own cs t e among same = refl

-- and one of another task does not
says_other : (cs : List TaskId) (t : TaskId) (e : Event) → (task_of e ≡ t.0 → ⊥) → has_ended (said (ending_among cs) e) t ≡ false
says_other cs t (End u x) other = elim (cases_Bool (is_among cs u)) [
  | inl y ↦ ap (λ (b : Bool). has_ended (cons_option (if b then Some (u, x) else None) []) t) y ∙ ap (λ (b : Bool). b || false) (ne_eqb u.0 t.0 other)
  | inr n ↦ ap (λ (b : Bool). has_ended (cons_option (if b then Some (u, x) else None) []) t) n
]
says_other cs t e other = refl

-- a child is among those that have ended where its task has
ended_is : (cs : List TaskId) (t : TaskId) (log : List Event) → is_among cs t ≡ true → has_ended (filter_map (ending_among cs) log) t ≡ is_some (life_of t.0 log).ending
ended_is cs t log among = by_push (λ xs. has_ended (filter_map (ending_among cs) xs) t ≡ is_some (life_of t.0 xs).ending)
    (ap (λ (l : Life). is_some l.ending) (sym (unborn_without t.0 [] refl)))
    (λ xs e go.
    ap (λ (l : List (TaskId × Ending)). has_ended l t) (filter_map-append (ending_among cs) xs (e ∷ []))
    ∙ list_any-append (λ (x : TaskId × Ending). x.0.0 == t.0) (filter_map (ending_among cs) xs) (said (ending_among cs) e)
    ∙ ap (λ (b : Bool). b || has_ended (said (ending_among cs) e) t) go
    ∙ elim (cases_eq (task_of e) t.0) [
      | inl same ↦
          ap (λ (b : Bool). is_some (life_of t.0 xs).ending || b) (says_own cs t e among same)
          ∙ sym (some_later (ending_in e) (life_of t.0 xs).ending)
          ∙ ap (λ (l : Life). is_some l.ending) (sym (life_of-push_same t.0 xs e same))
      | inr other ↦
          ap (λ (b : Bool). is_some (life_of t.0 xs).ending || b) (says_other cs t e other)
          ∙ or_false (is_some (life_of t.0 xs).ending)
          ∙ ap (λ (l : Life). is_some l.ending) (sym (life_of-push_other t.0 xs e other))
    ]) log

-- so those of its children that have not ended are the unfinished ones

same_filter : (cs ys : List TaskId) (p q : TaskId → Bool) → ((t : TaskId) → is_among cs t ≡ true → p t ≡ q t) → ((t : TaskId) → is_among ys t ≡ true → is_among cs t ≡ true) → filter p ys ≡ filter q ys
same_filter cs [] p q each within = refl
same_filter cs (y ∷ ys) p q each within =
    ap₂ (λ (b : Bool) (l : List TaskId). if b then y ∷ l else l)
    (each y (within y (ap (λ (b : Bool). b || is_among ys y) (eq-eqb y.0 y.0 refl))))
    (same_filter cs ys p q each (λ t h. within t (ap (λ (b : Bool). (y.0 == t.0) || b) h ∙ or_true (y.0 == t.0))))

pub unfinished_are : (cs : List TaskId) (log : List Event) → unfinished_of cs (filter_map (ending_among cs) log) ≡ filter (λ (t : TaskId). not (is_some (life_of t.0 log).ending)) cs
unfinished_are cs log =
    same_filter cs cs (λ (t : TaskId). not (has_ended (filter_map (ending_among cs) log) t)) (λ (t : TaskId). not (is_some (life_of t.0 log).ending)) (λ t among. ap not (ended_is cs t log among)) (λ t h. h)
