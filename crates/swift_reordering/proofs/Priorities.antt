-- A task that has a priority has one once more tasks were added and have waited.
use Rattle.swift_reordering.proofs.Prelude.{◌≡◌, ◌⊎◌, ℕ, zero, suc, ◌<◌, ◌≤◌, List, [], ◌∷◌, ◌++◌, length, refl, sym, ◌∙◌, ap, ap₂, subst, Bool, true, false, inl, inr, arith, slice_index_or, ◌==◌, ◌&&◌, ◌||◌, Contains, cases_Bool, eqb-true, eq-eqb, false≢true, Contains-append_right, filter_map-append, TaskId, Priority, IsGiven, Leads, Reaches, IsPriority, Event, link_in, links_of}
use Rattle.swift_types.specs.Priority.{rank}
use Rattle.swift_escalation.specs.declared.waits.PriorityEvent.{PriorityEvent as Link}
use Rattle.swift_escalation.specs.declared.waits.PriorityEvent.TheVariants.{Root, Child, Free, Wait}
use Rattle.swift_escalation.proofs.Record.{given_more, reaches_more}

-- elements

cons_at : {A : Type 0} (y : A) (ys : List A) (x : A) (k : ℕ) → k < length (y ∷ ys) → slice_index_or (y ∷ ys) k x ≡ x → (y ≡ x) ⊎ Contains ys x
cons_at y ys x zero lt at = inl at
cons_at y ys x (suc k) lt at = inr (k, omega (arith, lt), at)

pub cons_cases : {A : Type 0} (y : A) (ys : List A) (x : A) → Contains (y ∷ ys) x → (y ≡ x) ⊎ Contains ys x
cons_cases y ys x c = cons_at y ys x c.0 c.1 c.2

pub cons_here : {A : Type 0} (y : A) (ys : List A) (x : A) → y ≡ x → Contains (y ∷ ys) x
cons_here y ys x is = (0, omega arith, is)

pub cons_more : {A : Type 0} (y : A) (ys : List A) (x : A) → Contains ys x → Contains (y ∷ ys) x
cons_more y ys x c = Contains-append_right (y ∷ []) ys x c

pub none_there : {A : Type 0} (x : A) → Contains [] x → ⊥
none_there x c = let lt = c.1 in omega (arith, lt)

-- what one link leads to

abbrev joins : Link → TaskId → TaskId → Type 0
joins (Child t parent p) a b = (parent ≡ a) × (t ≡ b)
joins (Wait u t) a b = (u ≡ a) × (t ≡ b)
joins _ a b = ⊥

leads_here : (l : Link) (ls : List Link) (a b : TaskId) → joins l a b → Leads (l ∷ ls) a b
leads_here (Child t parent p) ls a b is = inl (p, cons_here _ ls _ (ap₂ (λ (x y : TaskId). Child x y p) is.1 is.0))
leads_here (Wait u t) ls a b is = inr (cons_here _ ls _ (ap₂ (λ (x y : TaskId). Wait x y) is.0 is.1))
leads_here _ ls a b is = absurd is

leads_more : (l : Link) (ls : List Link) (a b : TaskId) → Leads ls a b → Leads (l ∷ ls) a b
leads_more l ls a b (inl c) = inl (c.0, cons_more l ls _ c.1)
leads_more l ls a b (inr c) = inr (cons_more l ls _ c)

child_joins : (l : Link) (t parent : TaskId) (p : Priority) → l ≡ Child t parent p → joins l parent t
child_joins l t parent p is = subst (λ (k : Link). joins k parent t) (sym is) (refl, refl)

wait_joins : (l : Link) (u t : TaskId) → l ≡ Wait u t → joins l u t
wait_joins l u t is = subst (λ (k : Link). joins k u t) (sym is) (refl, refl)

leads_cases : (l : Link) (ls : List Link) (a b : TaskId) → Leads (l ∷ ls) a b → joins l a b ⊎ Leads ls a b
leads_cases l ls a b (inl c) = elim (cons_cases l ls _ c.1) [ inl is ↦ inl (child_joins l b a c.0 is) | inr d ↦ inr (inl (c.0, d)) ]
leads_cases l ls a b (inr c) = elim (cons_cases l ls _ c) [ inl is ↦ inl (wait_joins l a b is) | inr d ↦ inr (inr d) ]

all_reach_more : (l : Link) (ls : List Link) (n : ℕ) (a b : TaskId) → Reaches ls n a b → Reaches (l ∷ ls) n a b
all_reach_more l ls zero a b r = r
all_reach_more l ls (suc n) a b r = (r.0, all_reach_more l ls n a r.0 r.1, leads_more l ls r.0 b r.2)

abbrev CanReach : List Link → TaskId → TaskId → Type 0
CanReach ls a b = (n : ℕ) × Reaches ls n a b

reach_on : (ls : List Link) (m : ℕ) (a b c : TaskId) → CanReach ls a b → Reaches ls m b c → CanReach ls a c
reach_on ls zero a b c one two = subst (CanReach ls a) two one
reach_on ls (suc m) a b c one two = (let front = reach_on ls m a b two.0 one two.1 in (suc front.0, (two.0, front.1, two.2)))

-- whether a task is reached, link by link

abbrev reaches_by : Link → (TaskId → TaskId → Bool) → TaskId → TaskId → Bool
reaches_by (Child t parent p) f a b = f a parent && f t b
reaches_by (Wait u t) f a b = f a u && f t b
reaches_by _ f a b = false

abbrev reaches : List Link → TaskId → TaskId → Bool
reaches [] a b = a.0 == b.0
reaches (l ∷ ls) a b = reaches ls a b || reaches_by l (reaches ls) a b

either : (a b : Bool) → (a || b) ≡ true → (a ≡ true) ⊎ (b ≡ true)
either true b is = inl refl
either false b is = inr is

or_left : (a b : Bool) → a ≡ true → (a || b) ≡ true
or_left true b is = refl
or_left false b is = absurd (false≢true is)

or_right : (a b : Bool) → b ≡ true → (a || b) ≡ true
or_right true b is = refl
or_right false b is = is

and_both : (a b : Bool) → a ≡ true → b ≡ true → (a && b) ≡ true
and_both true b one two = two
and_both false b one two = absurd (false≢true one)

both : (a b : Bool) → (a && b) ≡ true → (a ≡ true) × (b ≡ true)
both true b is = (refl, is)
both false b is = absurd (false≢true is)

by_parts : (l : Link) (f : TaskId → TaskId → Bool) (a b : TaskId) → reaches_by l f a b ≡ true → (x : TaskId) × (y : TaskId) × joins l x y × (f a x ≡ true) × (f y b ≡ true)
by_parts (Child t parent p) f a b is = (let h = both (f a parent) (f t b) is in (parent, t, (refl, refl), h.0, h.1))
by_parts (Wait u t) f a b is = (let h = both (f a u) (f t b) is in (u, t, (refl, refl), h.0, h.1))
by_parts _ f a b is = absurd (false≢true is)

by_joined : (l : Link) (f : TaskId → TaskId → Bool) (a b x y : TaskId) → joins l x y → f a x ≡ true → f y b ≡ true → reaches_by l f a b ≡ true
by_joined (Root t p) f a b x y is one two = absurd is
by_joined (Free t p) f a b x y is one two = absurd is
by_joined _ f a b x y is one two = and_both _ _ (ap (f a) is.0 ∙ one) (ap (λ (z : TaskId). f z b) is.1 ∙ two)

sound : (ls : List Link) (a b : TaskId) → reaches ls a b ≡ true → CanReach ls a b
sound [] a b is = (0, ap (λ (n : ℕ). record { 0 = n }) (eqb-true a.0 b.0 is))
sound (l ∷ ls) a b is = elim (either (reaches ls a b) _ is) [
  | inl old ↦ (let r = sound ls a b old in (r.0, all_reach_more l ls r.0 a b r.1))
  | inr new ↦
      let p = by_parts l (reaches ls) a b new in
      let front = sound ls a p.0 p.3 in
      let back = sound ls p.1 b p.4 in
      let here : CanReach (l ∷ ls) a p.1 = (suc front.0, (p.0, all_reach_more l ls front.0 a p.0 front.1, leads_here l ls p.0 p.1 p.2)) in
      reach_on (l ∷ ls) back.0 a p.1 b here (all_reach_more l ls back.0 p.1 b back.1)
]

reaches_itself : (ls : List Link) (a : TaskId) → reaches ls a a ≡ true
reaches_itself [] a = eq-eqb a.0 a.0 refl
reaches_itself (l ∷ ls) a = or_left _ _ (reaches_itself ls a)

reaches_step : (ls : List Link) (a m b : TaskId) → reaches ls a m ≡ true → Leads ls m b → reaches ls a b ≡ true
reaches_step [] a m b is (inl c) = absurd (none_there _ c.1)
reaches_step [] a m b is (inr c) = absurd (none_there _ c)
reaches_step (l ∷ ls) a m b is leads = elim (leads_cases l ls m b leads) [
  | inl new ↦ or_right (reaches ls a b) _ (by_joined l (reaches ls) a b m b new (elim (either (reaches ls a m) _ is) [
    | inl old ↦ old
    | inr by ↦ (let p = by_parts l (reaches ls) a m by in subst (λ (x : TaskId). reaches ls a x ≡ true) (joins_one l p.0 p.1 m b p.2 new) p.3)
  ]) (reaches_itself ls b))
  | inr more ↦ elim (either (reaches ls a m) _ is) [
    | inl old ↦ or_left _ _ (reaches_step ls a m b old more)
    | inr by ↦ (let p = by_parts l (reaches ls) a m by in or_right (reaches ls a b) _ (by_joined l (reaches ls) a b p.0 p.1 p.2 p.3 (reaches_step ls p.1 m b p.4 more)))
  ]
] where
  joins_one : (l : Link) (a b x y : TaskId) → joins l a b → joins l x y → a ≡ x
  joins_one (Root t p) a b x y one two = absurd one
  joins_one (Free t p) a b x y one two = absurd one
  joins_one _ a b x y one two = sym one.0 ∙ two.0

complete : (ls : List Link) (n : ℕ) (a b : TaskId) → Reaches ls n a b → reaches ls a b ≡ true
complete ls zero a b r = subst (λ (x : TaskId). reaches ls a x ≡ true) r (reaches_itself ls a)
complete ls (suc n) a b r = reaches_step ls a r.0 b (complete ls n a r.0 r.1) r.2

-- the greatest of the priorities that some links give to tasks from which one is reached

abbrev gives_it : Link → TaskId → Priority → Type 0
gives_it (Root t p) s q = (t ≡ s) × (p ≡ q)
gives_it (Free t p) s q = (t ≡ s) × (p ≡ q)
gives_it (Child t parent p) s q = (t ≡ s) × (p ≡ q)
gives_it (Wait u t) s q = ⊥

given_here : (l : Link) (ls : List Link) (s : TaskId) (q : Priority) → gives_it l s q → IsGiven (l ∷ ls) s q
given_here (Root t p) ls s q is = inl (cons_here _ ls _ (ap₂ (λ (x : TaskId) (y : Priority). Root x y) is.0 is.1))
given_here (Free t p) ls s q is = inr (inl (cons_here _ ls _ (ap₂ (λ (x : TaskId) (y : Priority). Free x y) is.0 is.1)))
given_here (Child t parent p) ls s q is = inr (inr (parent, cons_here _ ls _ (ap₂ (λ (x : TaskId) (y : Priority). Child x parent y) is.0 is.1)))
given_here (Wait u t) ls s q is = absurd is

given_on : (l : Link) (ls : List Link) (s : TaskId) (q : Priority) → IsGiven ls s q → IsGiven (l ∷ ls) s q
given_on l ls s q (inl c) = inl (cons_more l ls _ c)
given_on l ls s q (inr (inl c)) = inr (inl (cons_more l ls _ c))
given_on l ls s q (inr (inr c)) = inr (inr (c.0, cons_more l ls _ c.1))

given_cases : (l : Link) (ls : List Link) (s : TaskId) (q : Priority) → IsGiven (l ∷ ls) s q → gives_it l s q ⊎ IsGiven ls s q
given_cases l ls s q (inl c) = elim (cons_cases l ls _ c) [ inl is ↦ inl (subst (λ (k : Link). gives_it k s q) (sym is) (refl, refl)) | inr d ↦ inr (inl d) ]
given_cases l ls s q (inr (inl c)) = elim (cons_cases l ls _ c) [ inl is ↦ inl (subst (λ (k : Link). gives_it k s q) (sym is) (refl, refl)) | inr d ↦ inr (inr (inl d)) ]
given_cases l ls s q (inr (inr c)) = elim (cons_cases l ls _ c.1) [ inl is ↦ inl (subst (λ (k : Link). gives_it k s q) (sym is) (refl, refl)) | inr d ↦ inr (inr (inr (c.0, d))) ]

-- which priority a link gives, if it does
gives_some : (l : Link) → ((s : TaskId) × (p : Priority) × gives_it l s p) ⊎ ((s : TaskId) (q : Priority) → gives_it l s q → ⊥)
gives_some (Root t p) = inl (t, p, (refl, refl))
gives_some (Free t p) = inl (t, p, (refl, refl))
gives_some (Child t parent p) = inl (t, p, (refl, refl))
gives_some (Wait u t) = inr (λ s q is. is)

gives_one : (l : Link) (s u : TaskId) (p q : Priority) → gives_it l s p → gives_it l u q → (s ≡ u) × (p ≡ q)
gives_one (Wait v t) s u p q one two = absurd one
gives_one _ s u p q one two = (sym one.0 ∙ two.0, sym one.1 ∙ two.1)

module _ (all : List Link) (t : TaskId) where
  -- the greatest among these links, and that there is none
  record Greatest (ls : List Link) : Type 0 where
    from : TaskId
    priority : Priority
    given : IsGiven ls from priority
    reached : reaches all from t ≡ true
    greatest : (s : TaskId) (q : Priority) → IsGiven ls s q → reaches all s t ≡ true → rank q ≤ rank priority

  abbrev NoneReaches : List Link → Type 0
  NoneReaches ls = (s : TaskId) (q : Priority) → IsGiven ls s q → reaches all s t ≡ true → ⊥

  le_or : (a b : ℕ) → (a ≤ b) ⊎ (b ≤ a)
  le_or a b = grind arith

  -- a link that gives nothing to such a task
  greatest_skip : (l : Link) (ls : List Link) → ((s : TaskId) (q : Priority) → gives_it l s q → reaches all s t ≡ true → ⊥) → Greatest ls ⊎ NoneReaches ls → Greatest (l ∷ ls) ⊎ NoneReaches (l ∷ ls)
  greatest_skip l ls never (inl g) = inl (record {
    from = g.from;
    priority = g.priority;
    given = given_on l ls g.from g.priority g.given;
    reached = g.reached;
    greatest = λ s q is r. elim (given_cases l ls s q is) [ inl here ↦ absurd (never s q here r) | inr more ↦ g.greatest s q more r ];
  })
  greatest_skip l ls never (inr none) = inr (λ s q is r. elim (given_cases l ls s q is) [ inl here ↦ never s q here r | inr more ↦ none s q more r ])

  greatest_take : (l : Link) (ls : List Link) (u : TaskId) (p : Priority) → gives_it l u p → reaches all u t ≡ true → Greatest ls ⊎ NoneReaches ls → Greatest (l ∷ ls)
  greatest_take l ls u p it r (inr none) = record {
    from = u;
    priority = p;
    given = given_here l ls u p it;
    reached = r;
    greatest = λ s q is also. elim (given_cases l ls s q is) [
      | inl here ↦ (let same = ap rank (gives_one l u s p q it here).1 in omega (arith, same))
      | inr more ↦ absurd (none s q more also)
    ];
  }
  greatest_take l ls u p it r (inl g) = elim (le_or (rank g.priority) (rank p)) [
    | inl up ↦ record {
      from = u;
      priority = p;
      given = given_here l ls u p it;
      reached = r;
      greatest = λ s q is also. elim (given_cases l ls s q is) [
        | inl here ↦ (let same = ap rank (gives_one l u s p q it here).1 in omega (arith, same))
        | inr more ↦ (let le = g.greatest s q more also in omega (arith, le, up))
      ];
    }
    | inr down ↦ record {
      from = g.from;
      priority = g.priority;
      given = given_on l ls g.from g.priority g.given;
      reached = g.reached;
      greatest = λ s q is also. elim (given_cases l ls s q is) [
        | inl here ↦ (let same = ap rank (gives_one l u s p q it here).1 in omega (arith, same, down))
        | inr more ↦ g.greatest s q more also
      ];
    }
  ]

  greatest_of : (ls : List Link) → Greatest ls ⊎ NoneReaches ls
  greatest_of [] = inr none_given where
    none_given : NoneReaches []
    none_given s q (inl c) r = none_there _ c
    none_given s q (inr (inl c)) r = none_there _ c
    none_given s q (inr (inr c)) r = none_there _ c.1
  greatest_of (l ∷ ls) = elim (gives_some l) [
    | inl it ↦ elim (cases_Bool (reaches all it.0 t)) [
      | inl r ↦ inl (greatest_take l ls it.0 it.1 it.2 r (greatest_of ls))
      | inr not ↦ greatest_skip l ls (λ s q is r. false≢true (sym not ∙ ap (λ (x : TaskId). reaches all x t) (gives_one l it.0 s it.1 q it.2 is).0 ∙ r)) (greatest_of ls)
    ]
    | inr never ↦ greatest_skip l ls (λ s q is r. never s q is) (greatest_of ls)
  ]

-- a task that is reached from one with a priority has a priority
pub has_priority : (ls : List Link) (t s : TaskId) (n : ℕ) (q : Priority) → IsGiven ls s q → Reaches ls n s t → (p : Priority) × IsPriority ls t p
has_priority ls t s n q given reached = elim (greatest_of ls t ls) [
  | inl g ↦ (let r = sound ls g.from t g.reached in (
    g.priority,
    record { given = (g.from, r.0, g.given, r.1); greatest = λ u m k is also. g.greatest u k is (complete ls m u t also) },
  ))
  | inr none ↦ absurd (none s q given (complete ls n s t reached))
]

pub links_grow : (log more : List Event) → links_of (log ++ more) ≡ links_of log ++ links_of more
links_grow log more = filter_map-append link_in log more

pub priority_later : (log more : List Event) (t : TaskId) (p : Priority) → IsPriority (links_of log) t p → (q : Priority) × IsPriority (links_of (log ++ more)) t q
priority_later log more t p is =
    let g = is.given in
    let one = has_priority (links_of log ++ links_of more) t g.0 g.1 p (given_more (links_of log) (links_of more) g.0 p g.2) (reaches_more (links_of log) (links_of more) g.1 g.0 t g.3) in
    (one.0, subst (λ (ls : List Link). IsPriority ls t one.0) (sym (links_grow log more)) one.1)
