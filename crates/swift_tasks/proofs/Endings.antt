-- The ending of a task stays as events are noted.
use Rattle.swift_tasks.proofs.Prelude.{◌≡◌, ℕ, List, [], ◌∷◌, ◌++◌, refl, sym, ◌∙◌, ap, subst, inl, inr, append_assoc, Some, None, cases_eq, append-nil, Ending, Event, Root, Begin, Apply, Free, Open, Child, Skip, CancelTask, CancelGroup, Wait, Next, Close, End, Give, Life, task_of, later, life_of, ending_in, life_of-push_same, life_of-push_other, CanNote, CanNoteAll}

-- only an end of the task would change it, and there is none
same_later : (roots : ℕ) (log : List Event) (e : Event) (ending : Ending) → CanNote roots log e → (life_of (task_of e) log).ending ≡ Some ending → later (ending_in e) (life_of (task_of e) log).ending ≡ Some ending
same_later roots log (End t other) ending can is = absurd (let none : (life_of t.0 log).ending ≡ None = can.1 in cc)
same_later roots log (Root t p) ending can is = is
same_later roots log (Begin t n env) ending can is = is
same_later roots log (Apply t n) ending can is = is
same_later roots log (Free t by p detached) ending can is = is
same_later roots log (Open o g) ending can is = is
same_later roots log (Child t o g p) ending can is = is
same_later roots log (Skip o g) ending can is = is
same_later roots log (CancelTask t) ending can is = is
same_later roots log (CancelGroup o g) ending can is = is
same_later roots log (Wait t awaited) ending can is = is
same_later roots log (Next o g) ending can is = is
same_later roots log (Close o g) ending can is = is
same_later roots log (Give t n resume) ending can is = is

stays : (roots t : ℕ) (ending : Ending) (log : List Event) (e : Event) → CanNote roots log e → (life_of t log).ending ≡ Some ending → (life_of t (log ++ e ∷ [])).ending ≡ Some ending
stays roots t ending log e can is = elim (cases_eq t (task_of e)) [
  | inl eq ↦ (let own : (life_of (task_of e) log).ending ≡ Some ending = subst (λ (k : ℕ). (life_of k log).ending ≡ Some ending) eq is in
      subst (λ (k : ℕ). (life_of k (log ++ e ∷ [])).ending ≡ Some ending) (sym eq) (ap (λ (l : Life). l.ending) (life_of-push_same (task_of e) log e refl) ∙ same_later roots log e ending can own))
  | inr ne ↦ ap (λ (l : Life). l.ending) (life_of-push_other t log e (λ q. ne (sym q))) ∙ is
]

pub ends_once : (roots t : ℕ) (ending : Ending) (log more : List Event) → (life_of t log).ending ≡ Some ending → CanNoteAll roots log more → (life_of t (log ++ more)).ending ≡ Some ending
ends_once roots t ending log [] is all = subst (λ (l : List Event). (life_of t l).ending ≡ Some ending) (sym (append-nil log)) is
ends_once roots t ending log (e ∷ es) is all =
    subst (λ (l : List Event). (life_of t l).ending ≡ Some ending) (append_assoc log (e ∷ []) es) (ends_once roots t ending (log ++ e ∷ []) es (stays roots t ending log e all.0 is) all.1)
