-- A wait for a task that is at least as urgent raises nobody.
use Rattle.swift_ledger.proofs.Prelude.{◌≡◌, ◌⊎◌, ℕ, zero, suc, ◌≤◌, List, [], ◌∷◌, ◌++◌, sym, subst, inl, inr, arith, Contains-push_cases, rank, TaskId, Priority, PriorityEvent, IsGiven, Leads, Reaches, IsPriority}
use Rattle.swift_escalation.specs.declared.waits.PriorityEvent.TheVariants.{Root, Child, Free, Wait}
use Rattle.swift_escalation.proofs.Record.{given_more, reaches_more}

-- a wait gives no priority
given_before : (es : List PriorityEvent) (u t s : TaskId) (q : Priority) → IsGiven (es ++ Wait u t ∷ []) s q → IsGiven es s q
given_before es u t s q g = elim g [
  | inl c ↦ elim (Contains-push_cases es (Wait u t) (Root s q) c) [ inl d ↦ inl d | inr w ↦ absurd (cc w) ]
  | inr (inl c) ↦ elim (Contains-push_cases es (Wait u t) (Free s q) c) [ inl d ↦ inr (inl d) | inr w ↦ absurd (cc w) ]
  | inr (inr c) ↦ elim (Contains-push_cases es (Wait u t) (Child s c.0 q) c.1) [ inl d ↦ inr (inr (c.0, d)) | inr w ↦ absurd (cc w) ]
]

-- it leads from the waiter to the awaited task alone
leads_before : (es : List PriorityEvent) (u t a b : TaskId) → Leads (es ++ Wait u t ∷ []) a b → Leads es a b ⊎ ((u ≡ a) × (t ≡ b))
leads_before es u t a b l = elim l [
  | inl c ↦ elim (Contains-push_cases es (Wait u t) (Child b a c.0) c.1) [ inl d ↦ inl (inl (c.0, d)) | inr w ↦ absurd (cc w) ]
  | inr c ↦ elim (Contains-push_cases es (Wait u t) (Wait a b) c) [ inl d ↦ inl (inr d) | inr w ↦ inr (cc w, cc w) ]
]

-- a task is reached from one to which a priority at least as urgent was given
abbrev IsReachedAt : List PriorityEvent → TaskId → Priority → Type 0
IsReachedAt es x r = (s : TaskId) × (n : ℕ) × (q : Priority) × IsGiven es s q × Reaches es n s x × (rank r ≤ rank q)

reached_before : (es : List PriorityEvent) (u t : TaskId) (p q : Priority) → IsPriority es u p → IsPriority es t q → rank p ≤ rank q
    → (n : ℕ) (s x : TaskId) (r : Priority) → IsGiven es s r → Reaches (es ++ Wait u t ∷ []) n s x → IsReachedAt es x r
reached_before es u t p q waiter awaited le zero s x r g reach = (s, zero, r, g, reach, omega arith)
reached_before es u t p q waiter awaited le (suc n) s x r g reach =
    let before : IsReachedAt es reach.0 r = reached_before es u t p q waiter awaited le n s reach.0 r g reach.1 in
    elim (leads_before es u t reach.0 x reach.2) [
      | inl old ↦ (before.0, suc before.1, before.2, before.3, (reach.0, before.4, old), before.5)
      | inr new ↦ (let high = waiter.greatest before.0 before.1 before.2 before.3 (subst (λ (m : TaskId). Reaches es before.1 before.0 m) (sym new.0) before.4) in
          (awaited.given.0, awaited.given.1, q, awaited.given.2, subst (λ (m : TaskId). Reaches es awaited.given.1 awaited.given.0 m) new.1 awaited.given.3, omega (arith, le, high, before.5)))
    ]

pub priority_stays : (es : List PriorityEvent) (u t : TaskId) (p q : Priority) → IsPriority es u p → IsPriority es t q → rank p ≤ rank q
    → (x : TaskId) (r : Priority) → IsPriority es x r → IsPriority (es ++ Wait u t ∷ []) x r
priority_stays es u t p q waiter awaited le x r is = record {
  given = (is.given.0, is.given.1, given_more es (Wait u t ∷ []) is.given.0 r is.given.2, reaches_more es (Wait u t ∷ []) is.given.1 is.given.0 x is.given.3);
  greatest = λ s n high g reach.
      let before = reached_before es u t p q waiter awaited le n s x high (given_before es u t s high g) reach in
      omega (arith, is.greatest before.0 before.1 before.2 before.3 before.4, before.5);
}
