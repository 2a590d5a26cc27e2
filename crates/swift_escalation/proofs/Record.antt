-- What an event adds to the places, levels and edges.
use Rattle.swift_escalation.proofs.Prelude.{◌≡◌, ◌≢◌, ℕ, zero, suc, ◌+◌, ◌≤◌, ◌<◌, ◌⊎◌, List, Option, None, Some, [], ◌∷◌, ◌++◌, length, get_or, Bool, cond, eqb, refl, ap, sym, subst, ◌∙◌, inl, inr, arith, length_push, append-nil, Contains-push_cases, Contains-append_left, Contains-append_right, Contains-append_cases, slice_get_within, slice_get-get_or, get_or_from_slice_get, same_Some, cases_eq, cases_lt, eq-eqb, ne_eqb, slice_get, Contains, IsSome, rank, TaskId, level_of, higher, edge_at, HasEdge, IsSettled, Walk, Settling, tasks_of, IsKnown, IsGiven, Leads, Reaches, IsPriority, IsOwn, StandsAt, HasReason, EdgeStands, LeadStands, AreOf, Priority, Background, Low, Medium, High, TaskEdge, PriorityEvent, Root, Child, Free, Wait}
use Rattle.swift_escalation.proofs.Push.{level_of-push_old, level_of-push_new, edge_at-push_old, edge_at-push_new, higher_cases, higher_second}

-- priorities of one rank are one
pub rank_one : (p q : Priority) → rank p ≡ rank q → p ≡ q
rank_one Background Background e = refl
rank_one Low Low e = refl
rank_one Medium Medium e = refl
rank_one High High e = refl
rank_one _ _ e = absurd (omega (arith, e))

pub slice_get-push_old : (xs ys : List TaskId) (i : ℕ) (x : TaskId) → slice_get xs i ≡ Some x → slice_get (xs ++ ys) i ≡ Some x
slice_get-push_old [] ys i x h = absurd (cc h)
slice_get-push_old (z ∷ zs) ys zero x h = h
slice_get-push_old (z ∷ zs) ys (suc i) x h = slice_get-push_old zs ys i x h

pub slice_get-push_new : (xs : List TaskId) (y : TaskId) → slice_get (xs ++ y ∷ []) (length xs) ≡ Some y
slice_get-push_new [] y = refl
slice_get-push_new (z ∷ zs) y = slice_get-push_new zs y

pub slice_get-push_cases : (xs : List TaskId) (y : TaskId) (i : ℕ) (x : TaskId) → slice_get (xs ++ y ∷ []) i ≡ Some x → (slice_get xs i ≡ Some x) ⊎ ((i ≡ length xs) × (y ≡ x))
slice_get-push_cases [] y zero x h = inr (refl, same_Some y x h)
slice_get-push_cases [] y (suc i) x h = absurd (cc h)
slice_get-push_cases (z ∷ zs) y zero x h = inl h
slice_get-push_cases (z ∷ zs) y (suc i) x h = elim (slice_get-push_cases zs y i x h) [ inl a ↦ inl a | inr b ↦ inr (ap suc b.0, b.1) ]

pub tasks_of-append : (xs ys : List PriorityEvent) → tasks_of (xs ++ ys) ≡ tasks_of xs ++ tasks_of ys
tasks_of-append [] ys = refl
tasks_of-append (Root t p ∷ xs) ys = ap (λ (s : List TaskId). t ∷ s) (tasks_of-append xs ys)
tasks_of-append (Child t u p ∷ xs) ys = ap (λ (s : List TaskId). t ∷ s) (tasks_of-append xs ys)
tasks_of-append (Free t p ∷ xs) ys = ap (λ (s : List TaskId). t ∷ s) (tasks_of-append xs ys)
tasks_of-append (Wait u t ∷ xs) ys = tasks_of-append xs ys

pub known_from_stands : (es : List PriorityEvent) (t : TaskId) (i : ℕ) → StandsAt es t i → IsKnown es t
known_from_stands es t i h = (i, slice_get_within (tasks_of es) i t h, get_or_from_slice_get (tasks_of es) i t t h)

pub stands_from_known : (es : List PriorityEvent) (t : TaskId) → IsKnown es t → (i : ℕ) × StandsAt es t i
stands_from_known es t c = (c.0, slice_get-get_or (tasks_of es) c.0 t c.1 ∙ ap Some c.2)

pub given_more : (es fs : List PriorityEvent) (s : TaskId) (q : Priority) → IsGiven es s q → IsGiven (es ++ fs) s q
given_more es fs s q g = elim g [
  | inl c ↦ inl (Contains-append_left es fs (Root s q) c)
  | inr (inl c) ↦ inr (inl (Contains-append_left es fs (Free s q) c))
  | inr (inr c) ↦ inr (inr (c.0, Contains-append_left es fs (Child s c.0 q) c.1))
]

given_last : (es fs : List PriorityEvent) (s : TaskId) (q : Priority) → IsGiven fs s q → IsGiven (es ++ fs) s q
given_last es fs s q g = elim g [
  | inl c ↦ inl (Contains-append_right es fs (Root s q) c)
  | inr (inl c) ↦ inr (inl (Contains-append_right es fs (Free s q) c))
  | inr (inr c) ↦ inr (inr (c.0, Contains-append_right es fs (Child s c.0 q) c.1))
]

given_cases : (es fs : List PriorityEvent) (s : TaskId) (q : Priority) → IsGiven (es ++ fs) s q → IsGiven es s q ⊎ IsGiven fs s q
given_cases es fs s q g = elim g [
  | inl c ↦ elim (Contains-append_cases es fs (Root s q) c) [ inl d ↦ inl (inl d) | inr d ↦ inr (inl d) ]
  | inr (inl c) ↦ elim (Contains-append_cases es fs (Free s q) c) [ inl d ↦ inl (inr (inl d)) | inr d ↦ inr (inr (inl d)) ]
  | inr (inr c) ↦ elim (Contains-append_cases es fs (Child s c.0 q) c.1) [ inl d ↦ inl (inr (inr (c.0, d))) | inr d ↦ inr (inr (inr (c.0, d))) ]
]

leads_more : (es fs : List PriorityEvent) (a b : TaskId) → Leads es a b → Leads (es ++ fs) a b
leads_more es fs a b g = elim g [ inl c ↦ inl (c.0, Contains-append_left es fs (Child b a c.0) c.1) | inr c ↦ inr (Contains-append_left es fs (Wait a b) c) ]

leads_last : (es fs : List PriorityEvent) (a b : TaskId) → Leads fs a b → Leads (es ++ fs) a b
leads_last es fs a b g = elim g [ inl c ↦ inl (c.0, Contains-append_right es fs (Child b a c.0) c.1) | inr c ↦ inr (Contains-append_right es fs (Wait a b) c) ]

leads_cases : (es fs : List PriorityEvent) (a b : TaskId) → Leads (es ++ fs) a b → Leads es a b ⊎ Leads fs a b
leads_cases es fs a b g = elim g [
  | inl c ↦ elim (Contains-append_cases es fs (Child b a c.0) c.1) [ inl d ↦ inl (inl (c.0, d)) | inr d ↦ inr (inl (c.0, d)) ]
  | inr c ↦ elim (Contains-append_cases es fs (Wait a b) c) [ inl d ↦ inl (inr d) | inr d ↦ inr (inr d) ]
]

pub reaches_more : (es fs : List PriorityEvent) (n : ℕ) (a b : TaskId) → Reaches es n a b → Reaches (es ++ fs) n a b
reaches_more es fs zero a b r = r
reaches_more es fs (suc n) a b r = (r.0, reaches_more es fs n a r.0 r.1, leads_more es fs r.0 b r.2)

reason_more : (es fs : List PriorityEvent) (t : TaskId) (n : ℕ) → HasReason es t n → HasReason (es ++ fs) t n
reason_more es fs t n r = record { from = r.from; steps = r.steps; priority = r.priority; given = given_more es fs r.from r.priority r.given; reached = reaches_more es fs r.steps r.from t r.reached; same = r.same }

one_event : (e f : PriorityEvent) → Contains (e ∷ []) f → e ≡ f
one_event e f c = elim (Contains-push_cases [] e f c) [ inl d ↦ absurd (let g = d.1 in omega (arith, g)) | inr q ↦ q ]

stands_more : (es fs : List PriorityEvent) (t : TaskId) (i : ℕ) → StandsAt es t i → StandsAt (es ++ fs) t i
stands_more es fs t i h = subst (λ (s : List TaskId). slice_get s i ≡ Some t) (sym (tasks_of-append es fs)) (slice_get-push_old (tasks_of es) (tasks_of fs) i t h)

edge_stands_more : (es fs : List PriorityEvent) (d : TaskEdge) → EdgeStands es d → EdgeStands (es ++ fs) d
edge_stands_more es fs d w = record { a = w.a; b = w.b; from = stands_more es fs w.a d.from w.from; to = stands_more es fs w.b d.to w.to; leads = leads_more es fs w.a w.b w.leads }

-- what the levels say is the priority
reached_level : (es : List PriorityEvent) (place : TaskId → Option ℕ) (levels : List Priority) (edges : List TaskEdge) → AreOf es place levels edges → IsSettled edges levels
    → (n : ℕ) (s t : TaskId) (q : Priority) → IsGiven es s q → Reaches es n s t → (i : ℕ) × StandsAt es t i × (rank q ≤ level_of levels i)
reached_level es place levels edges k up zero s t q g r = subst (λ (x : TaskId). (i : ℕ) × StandsAt es x i × (rank q ≤ level_of levels i)) r (k.given s q g)
reached_level es place levels edges k up (suc n) s t q g r =
    let w = reached_level es place levels edges k up n s r.0 q g r.1 in
    let l = k.leads_stand r.0 t r.2 in
    let same : l.i ≡ w.0 = same_Some l.i w.0 (sym (k.kept r.0 l.i l.from) ∙ k.kept r.0 w.0 w.1) in
    let e = l.edge in
    let le : level_of levels l.i ≤ level_of levels l.j = subst (λ (x : ℕ). level_of levels x ≤ level_of levels l.j) e.2
    (subst (λ (x : ℕ). level_of levels (edge_at edges e.0).from ≤ level_of levels x) e.3 (up e.0 e.1)) in
    let here : rank q ≤ level_of levels l.i = subst (λ (x : ℕ). rank q ≤ level_of levels x) (sym same) w.2 in
    (l.j, l.to, omega (arith, le, here))

pub is_priority : (es : List PriorityEvent) (place : TaskId → Option ℕ) (levels : List Priority) (edges : List TaskEdge) → AreOf es place levels edges → IsSettled edges levels
    → (t : TaskId) (i : ℕ) (p : Priority) → place t ≡ Some i → rank p ≡ level_of levels i → IsPriority es t p
is_priority es place levels edges k up t i p h level =
    let r = k.reasons t i (k.found t i h) in
    let same : r.priority ≡ p = rank_one r.priority p (r.same ∙ sym level) in
    record {
      given = (r.from, r.steps, subst (λ (x : Priority). IsGiven es r.from x) same r.given, r.reached);
      greatest = λ s n q g w.
          let m = reached_level es place levels edges k up n s t q g w in
          let here : m.0 ≡ i = same_Some m.0 i (sym (k.kept t m.0 m.1) ∙ h) in
          let le : rank q ≤ level_of levels i = subst (λ (x : ℕ). rank q ≤ level_of levels x) here m.2 in
          omega (arith, le, level);
    }

-- tasks of one number are one
of_number : (t q : TaskId) → t.0 ≡ q.0 → t ≡ q
of_number t q e = ap (λ (n : ℕ). let x : TaskId = record { 0 = n } in x) e

-- two tasks are one, or they are not
cases_task : (q t : TaskId) → (q ≡ t) ⊎ (q ≢ t)
cases_task q t = elim (cases_eq q.0 t.0) [ inl e ↦ inl (of_number q t e) | inr n ↦ inr (λ e. n (ap (λ (x : TaskId). x.0) e)) ]

-- after what every event leaves as it was
abbrev Added : (TaskId → Option ℕ) → (TaskId → Option ℕ) → TaskId → ℕ → Type 0
Added place place' t n = (q : TaskId) → place' q ≡ cond (eqb t.0 q.0) (Some n) (place q)

added_same : (place place' : TaskId → Option ℕ) (t : TaskId) (n : ℕ) → Added place place' t n → place' t ≡ Some n
added_same place place' t n h = h t ∙ ap (λ (b : Bool). cond b (Some n) (place t)) (eq-eqb t.0 t.0 refl)

added_other : (place place' : TaskId → Option ℕ) (t : TaskId) (n : ℕ) (q : TaskId) → Added place place' t n → q ≢ t → place' q ≡ place q
added_other place place' t n q h ne = h q ∙ ap (λ (b : Bool). cond b (Some n) (place q)) (ne_eqb t.0 q.0 (λ e. ne (sym (of_number t q e))))

-- the places after a task was added
found_added : (xs : List TaskId) (place place' : TaskId → Option ℕ) (t : TaskId) (n : ℕ) → n ≡ length xs → Added place place' t n
    → ((q : TaskId) (i : ℕ) → place q ≡ Some i → slice_get xs i ≡ Some q) → (q : TaskId) (i : ℕ) → place' q ≡ Some i → slice_get (xs ++ t ∷ []) i ≡ Some q
found_added xs place place' t n len a old q i h = elim (cases_task q t) [
  | inl e ↦ let at : place' q ≡ Some n = ap place' e ∙ added_same place place' t n a in
      let same : n ≡ i = same_Some n i (sym at ∙ h) in
      subst (λ (j : ℕ). slice_get (xs ++ t ∷ []) j ≡ Some q) (sym len ∙ same) (slice_get-push_new xs t ∙ ap Some (sym e))
  | inr ne ↦ slice_get-push_old xs (t ∷ []) i q (old q i (sym (added_other place place' t n q a ne) ∙ h))
]

kept_added : (xs : List TaskId) (place place' : TaskId → Option ℕ) (t : TaskId) (n : ℕ) → n ≡ length xs → Added place place' t n → place t ≡ None
    → ((q : TaskId) (i : ℕ) → slice_get xs i ≡ Some q → place q ≡ Some i) → (q : TaskId) (i : ℕ) → slice_get (xs ++ t ∷ []) i ≡ Some q → place' q ≡ Some i
kept_added xs place place' t n len a fresh old q i h = elim (slice_get-push_cases xs t i q h) [
  | inl w ↦ let was = old q i w in elim (cases_task q t) [
    | inl e ↦ absurd (let none : place q ≡ None = ap place e ∙ fresh in cc (was, none))
    | inr ne ↦ added_other place place' t n q a ne ∙ was
  ]
  | inr w ↦ ap place' (sym w.1) ∙ added_same place place' t n a ∙ ap Some (len ∙ sym w.0)
]

-- the event gives nothing but p to t, and leads nowhere
record OwnOnly (e : PriorityEvent) (t : TaskId) (p : Priority) : Type 0 where
  task : tasks_of (e ∷ []) ≡ t ∷ []
  own : IsGiven (e ∷ []) t p
  given : (s : TaskId) (q : Priority) → IsGiven (e ∷ []) s q → (t ≡ s) × (p ≡ q)
  leads : (a b : TaskId) → Leads (e ∷ []) a b → ⊥

own_only : (e : PriorityEvent) (t : TaskId) (p : Priority) → IsOwn e t p → OwnOnly e t p
own_only (Root t p) t' p' h = record {
  task = ap (λ (x : TaskId). x ∷ []) h.0;
  own = inl (0, omega arith, ap (λ (x : TaskId). Root x p) h.0 ∙ ap (λ (x : Priority). Root t' x) h.1);
  given = λ s q g. elim g [
    | inl c ↦ let w = one_event (Root t p) (Root s q) c in (cc (w, h.0), cc (w, h.1))
    | inr (inl c) ↦ absurd (cc (one_event (Root t p) (Free s q) c))
    | inr (inr c) ↦ absurd (cc (one_event (Root t p) (Child s c.0 q) c.1))
  ];
  leads = λ a b g. elim g [ inl c ↦ cc (one_event (Root t p) (Child b a c.0) c.1) | inr c ↦ cc (one_event (Root t p) (Wait a b) c) ];
}
own_only (Free t p) t' p' h = record {
  task = ap (λ (x : TaskId). x ∷ []) h.0;
  own = inr (inl (0, omega arith, ap (λ (x : TaskId). Free x p) h.0 ∙ ap (λ (x : Priority). Free t' x) h.1));
  given = λ s q g. elim g [
    | inl c ↦ absurd (cc (one_event (Free t p) (Root s q) c))
    | inr (inl c) ↦ let w = one_event (Free t p) (Free s q) c in (cc (w, h.0), cc (w, h.1))
    | inr (inr c) ↦ absurd (cc (one_event (Free t p) (Child s c.0 q) c.1))
  ];
  leads = λ a b g. elim g [ inl c ↦ cc (one_event (Free t p) (Child b a c.0) c.1) | inr c ↦ cc (one_event (Free t p) (Wait a b) c) ];
}
own_only _ t' p' h = absurd h

pub are_of_own : (es : List PriorityEvent) (place place' : TaskId → Option ℕ) (levels : List Priority) (edges : List TaskEdge) (e : PriorityEvent) (t : TaskId) (p : Priority)
    → AreOf es place levels edges → IsOwn e t p → place t ≡ None → Added place place' t (length levels)
    → AreOf (es ++ e ∷ []) place' (levels ++ p ∷ []) edges
are_of_own es place place' levels edges e t p k own fresh a =
    let o = own_only e t p own in
    let names : tasks_of (es ++ e ∷ []) ≡ tasks_of es ++ t ∷ [] = tasks_of-append es (e ∷ []) ∙ ap (λ (s : List TaskId). tasks_of es ++ s) o.task in
    let stands : (q : TaskId) (i : ℕ) → slice_get (tasks_of es ++ t ∷ []) i ≡ Some q → StandsAt (es ++ e ∷ []) q i = λ q i h. subst (λ (s : List TaskId). slice_get s i ≡ Some q) (sym names) h in
    let stood : (q : TaskId) (i : ℕ) → StandsAt (es ++ e ∷ []) q i → slice_get (tasks_of es ++ t ∷ []) i ≡ Some q = λ q i h. subst (λ (s : List TaskId). slice_get s i ≡ Some q) names h in
    let last : StandsAt (es ++ e ∷ []) t (length (tasks_of es)) = stands t (length (tasks_of es)) (slice_get-push_new (tasks_of es) t) in
    let newest : level_of (levels ++ p ∷ []) (length (tasks_of es)) ≡ rank p = ap (λ (n : ℕ). level_of (levels ++ p ∷ []) n) (sym k.count) ∙ level_of-push_new levels p in
    let older : (q : TaskId) (i : ℕ) → StandsAt es q i → level_of (levels ++ p ∷ []) i ≡ level_of levels i = λ q i h. level_of-push_old levels p i (let w = slice_get_within (tasks_of es) i q h in let n = k.count in omega (arith, w, n)) in
    record {
      count = length_push levels p ∙ ap (λ (n : ℕ). n + 1) k.count ∙ sym (length_push (tasks_of es) t) ∙ ap length (sym names);
      found = λ q i h. stands q i (found_added (tasks_of es) place place' t (length levels) k.count a k.found q i h);
      kept = λ q i h. kept_added (tasks_of es) place place' t (length levels) k.count a fresh k.kept q i (stood q i h);
      edges_stand = λ j h. edge_stands_more es (e ∷ []) (edge_at edges j) (k.edges_stand j h);
      leads_stand = λ x y l. elim (leads_cases es (e ∷ []) x y l) [
        | inl w ↦ let d = k.leads_stand x y w in record { i = d.i; j = d.j; from = stands_more es (e ∷ []) x d.i d.from; to = stands_more es (e ∷ []) y d.j d.to; edge = d.edge }
        | inr w ↦ absurd (o.leads x y w)
      ];
      given = λ s q g. elim (given_cases es (e ∷ []) s q g) [
        | inl w ↦ let d = k.given s q w in (d.0, stands_more es (e ∷ []) s d.0 d.1, (let l = older s d.0 d.1 in let m = d.2 in omega (arith, l, m)))
        | inr w ↦ let d = o.given s q w in (length (tasks_of es), subst (λ (x : TaskId). StandsAt (es ++ e ∷ []) x (length (tasks_of es))) d.0 last, (let r = ap rank d.1 in omega (arith, r, newest)))
      ];
      reasons = λ q i h. elim (slice_get-push_cases (tasks_of es) t i q (stood q i h)) [
        | inl w ↦ subst (λ (n : ℕ). HasReason (es ++ e ∷ []) q n) (sym (older q i w)) (reason_more es (e ∷ []) q (level_of levels i) (k.reasons q i w))
        | inr w ↦ subst (λ (x : TaskId). HasReason (es ++ e ∷ []) x (level_of (levels ++ p ∷ []) i)) w.1 (record { from = t; steps = 0; priority = p; given = given_last es (e ∷ []) t p o.own; reached = refl; same = sym (ap (λ (n : ℕ). level_of (levels ++ p ∷ []) n) w.0 ∙ newest) })
      ];
    }

-- the record holds, where the places are kept otherwise
pub are_of_same : (es : List PriorityEvent) (f g : TaskId → Option ℕ) (levels : List Priority) (edges : List TaskEdge) → ((q : TaskId) → g q ≡ f q) → AreOf es f levels edges → AreOf es g levels edges
are_of_same es f g levels edges h k = record {
  count = k.count;
  found = λ t i e. k.found t i (sym (h t) ∙ e);
  kept = λ t i s. h t ∙ k.kept t i s;
  edges_stand = k.edges_stand;
  leads_stand = k.leads_stand;
  given = k.given;
  reasons = k.reasons;
}

edges_push : (es : List PriorityEvent) (edges : List TaskEdge) (d : TaskEdge) → ((k : ℕ) → k < length edges → EdgeStands es (edge_at edges k)) → EdgeStands es d
    → (k : ℕ) → k < length (edges ++ d ∷ []) → EdgeStands es (edge_at (edges ++ d ∷ []) k)
edges_push es edges d old new k h = elim (cases_lt k (length edges)) [
  | inl lt ↦ subst (λ (x : TaskEdge). EdgeStands es x) (sym (edge_at-push_old edges d k lt)) (old k lt)
  | inr ge ↦ subst (λ (x : TaskEdge). EdgeStands es x) (sym (edge_at-push_new edges d k (let n = length_push edges d in omega (arith, n, ge, h)))) new
]

has_edge_more : (edges : List TaskEdge) (d : TaskEdge) (a b : ℕ) → HasEdge edges a b → HasEdge (edges ++ d ∷ []) a b
has_edge_more edges d a b e =
    let same = edge_at-push_old edges d e.0 e.1 in
    (e.0, (let n = length_push edges d in let l = e.1 in omega (arith, n, l)), ap (λ (x : TaskEdge). x.from) same ∙ e.2, ap (λ (x : TaskEdge). x.to) same ∙ e.3)

has_edge_last : (edges : List TaskEdge) (a b : ℕ) → HasEdge (edges ++ (record { from = a; to = b }) ∷ []) a b
has_edge_last edges a b =
    let d : TaskEdge = record { from = a; to = b } in
    let same = edge_at-push_new edges d (length edges) refl in
    (length edges, (let n = length_push edges d in omega (arith, n)), ap (λ (x : TaskEdge). x.from) same, ap (λ (x : TaskEdge). x.to) same)

child_leads : (t u : TaskId) (p : Priority) (a b : TaskId) → Leads (Child t u p ∷ []) a b → (u ≡ a) × (t ≡ b)
child_leads t u p a b l = elim l [ inl c ↦ let w = one_event (Child t u p) (Child b a c.0) c.1 in (cc w, cc w) | inr c ↦ absurd (cc (one_event (Child t u p) (Wait a b) c)) ]

child_gives : (t u : TaskId) (p : Priority) (s : TaskId) (q : Priority) → IsGiven (Child t u p ∷ []) s q → (t ≡ s) × (p ≡ q)
child_gives t u p s q g = elim g [
  | inl c ↦ absurd (cc (one_event (Child t u p) (Root s q) c))
  | inr (inl c) ↦ absurd (cc (one_event (Child t u p) (Free s q) c))
  | inr (inr c) ↦ let w = one_event (Child t u p) (Child s c.0 q) c.1 in (cc w, cc w)
]

wait_leads : (u t a b : TaskId) → Leads (Wait u t ∷ []) a b → (u ≡ a) × (t ≡ b)
wait_leads u t a b l = elim l [ inl c ↦ absurd (cc (one_event (Wait u t) (Child b a c.0) c.1)) | inr c ↦ let w = one_event (Wait u t) (Wait a b) c in (cc w, cc w) ]

wait_gives : (u t s : TaskId) (q : Priority) → IsGiven (Wait u t ∷ []) s q → ⊥
wait_gives u t s q g = elim g [
  | inl c ↦ cc (one_event (Wait u t) (Root s q) c)
  | inr (inl c) ↦ cc (one_event (Wait u t) (Free s q) c)
  | inr (inr c) ↦ cc (one_event (Wait u t) (Child s c.0 q) c.1)
]

lead_more : (es fs : List PriorityEvent) (edges : List TaskEdge) (d : TaskEdge) (x y : TaskId) → LeadStands es edges x y → LeadStands (es ++ fs) (edges ++ d ∷ []) x y
lead_more es fs edges d x y w = record { i = w.i; j = w.j; from = stands_more es fs x w.i w.from; to = stands_more es fs y w.j w.to; edge = has_edge_more edges d w.i w.j w.edge }

lead_last : (es : List PriorityEvent) (edges : List TaskEdge) (i j : ℕ) (u t x y : TaskId) → StandsAt es u i → StandsAt es t j → (u ≡ x) × (t ≡ y) → LeadStands es (edges ++ (record { from = i; to = j }) ∷ []) x y
lead_last es edges i j u t x y su st e = record {
  i = i;
  j = j;
  from = subst (λ (q : TaskId). StandsAt es q i) e.0 su;
  to = subst (λ (q : TaskId). StandsAt es q j) e.1 st;
  edge = has_edge_last edges i j;
}

pub are_of_child : (es : List PriorityEvent) (place place' : TaskId → Option ℕ) (levels : List Priority) (edges : List TaskEdge) (t u : TaskId) (own : Priority) (i : ℕ)
    → AreOf es place levels edges → StandsAt es u i → place t ≡ None → Added place place' t (length levels)
    → AreOf (es ++ Child t u own ∷ []) place' (levels ++ higher (get_or levels i Background) own ∷ []) (edges ++ (record { from = i; to = length levels }) ∷ [])
are_of_child es place place' levels edges t u own i k above fresh a =
    let fs : List PriorityEvent = Child t u own ∷ [] in
    let p : Priority = higher (get_or levels i Background) own in
    let d : TaskEdge = record { from = i; to = length levels } in
    let names : tasks_of (es ++ fs) ≡ tasks_of es ++ t ∷ [] = tasks_of-append es fs in
    let stands : (q : TaskId) (j : ℕ) → slice_get (tasks_of es ++ t ∷ []) j ≡ Some q → StandsAt (es ++ fs) q j = λ q j h. subst (λ (s : List TaskId). slice_get s j ≡ Some q) (sym names) h in
    let stood : (q : TaskId) (j : ℕ) → StandsAt (es ++ fs) q j → slice_get (tasks_of es ++ t ∷ []) j ≡ Some q = λ q j h. subst (λ (s : List TaskId). slice_get s j ≡ Some q) names h in
    let last : StandsAt (es ++ fs) t (length levels) = subst (λ (n : ℕ). StandsAt (es ++ fs) t n) (sym k.count) (stands t (length (tasks_of es)) (slice_get-push_new (tasks_of es) t)) in
    let newest : level_of (levels ++ p ∷ []) (length levels) ≡ rank p = level_of-push_new levels p in
    let older : (q : TaskId) (j : ℕ) → StandsAt es q j → level_of (levels ++ p ∷ []) j ≡ level_of levels j = λ q j h. level_of-push_old levels p j (let w = slice_get_within (tasks_of es) j q h in let n = k.count in omega (arith, w, n)) in
    let up : StandsAt (es ++ fs) u i = stands_more es fs u i above in
    let lead : Leads (es ++ fs) u t = leads_last es fs u t (inl (own, (0, omega arith, refl))) in
    let given : IsGiven (es ++ fs) t own = given_last es fs t own (inr (inr (u, (0, omega arith, refl)))) in
    record {
      count = length_push levels p ∙ ap (λ (n : ℕ). n + 1) k.count ∙ sym (length_push (tasks_of es) t) ∙ ap length (sym names);
      found = λ q j h. stands q j (found_added (tasks_of es) place place' t (length levels) k.count a k.found q j h);
      kept = λ q j h. kept_added (tasks_of es) place place' t (length levels) k.count a fresh k.kept q j (stood q j h);
      edges_stand = edges_push (es ++ fs) edges d (λ j h. edge_stands_more es fs (edge_at edges j) (k.edges_stand j h)) (record { a = u; b = t; from = up; to = last; leads = lead });
      leads_stand = λ x y l. elim (leads_cases es fs x y l) [
        | inl w ↦ lead_more es fs edges d x y (k.leads_stand x y w)
        | inr w ↦ lead_last (es ++ fs) edges i (length levels) u t x y up last (child_leads t u own x y w)
      ];
      given = λ s q g. elim (given_cases es fs s q g) [
        | inl w ↦ let e = k.given s q w in (e.0, stands_more es fs s e.0 e.1, (let l = older s e.0 e.1 in let m = e.2 in omega (arith, l, m)))
        | inr w ↦
            let d = child_gives t u own s q w in
            (length levels, subst (λ (x : TaskId). StandsAt (es ++ fs) x (length levels)) d.0 last, (let r = ap rank d.1 in let h = higher_second (get_or levels i Background) own in omega (arith, r, newest, h)))
      ];
      reasons = λ q j h. elim (slice_get-push_cases (tasks_of es) t j q (stood q j h)) [
        | inl w ↦ subst (λ (n : ℕ). HasReason (es ++ fs) q n) (sym (older q j w)) (reason_more es fs q (level_of levels j) (k.reasons q j w))
        | inr w ↦
            let r = reason_more es fs u (level_of levels i) (k.reasons u i above) in
            let here : level_of (levels ++ p ∷ []) j ≡ rank p = ap (λ (n : ℕ). level_of (levels ++ p ∷ []) n) (w.0 ∙ sym k.count) ∙ newest in
            subst (λ (x : TaskId). HasReason (es ++ fs) x (level_of (levels ++ p ∷ []) j)) w.1 (elim (higher_cases (get_or levels i Background) own) [
              | inl v ↦ record { from = r.from; steps = suc r.steps; priority = r.priority; given = r.given; reached = (u, r.reached, lead); same = r.same ∙ sym (here ∙ ap rank v.0) }
              | inr v ↦ record { from = t; steps = 0; priority = own; given = given; reached = refl; same = sym (here ∙ ap rank v.0) }
            ])
      ];
    }

-- where a walk ends, there stands a task that is reached
walk_reaches : (es : List PriorityEvent) (edges : List TaskEdge) → ((k : ℕ) → k < length edges → EdgeStands es (edge_at edges k))
    → (n j i : ℕ) (t s : TaskId) (m : ℕ) → StandsAt es t j → Reaches es m s t → Walk edges n j i → (x : TaskId) × (l : ℕ) × StandsAt es x i × Reaches es l s x
walk_reaches es edges k zero j i t s m st r w = (t, m, subst (λ (y : ℕ). StandsAt es t y) w st, r)
walk_reaches es edges k (suc n) j i t s m st r w =
    let v = walk_reaches es edges k n j w.0 t s m st r w.1 in
    let e = w.2 in
    let d = k e.0 e.1 in
    let from : StandsAt es d.a w.0 = subst (λ (y : ℕ). StandsAt es d.a y) e.2 d.from in
    let to : StandsAt es d.b i = subst (λ (y : ℕ). StandsAt es d.b y) e.3 d.to in
    let same : d.a ≡ v.0 = same_Some d.a v.0 (sym from ∙ v.2) in
    (d.b, suc v.1, to, (v.0, v.3, subst (λ (y : TaskId). Leads es y d.b) same d.leads))

pub are_of_wait : (es : List PriorityEvent) (place : TaskId → Option ℕ) (levels levels' : List Priority) (edges : List TaskEdge) (u t : TaskId) (i j : ℕ)
    → AreOf es place levels edges → StandsAt es u i → StandsAt es t j → length levels' ≡ length levels
    → Settling (edges ++ (record { from = i; to = j }) ∷ []) j (level_of levels i) levels levels'
    → AreOf (es ++ Wait u t ∷ []) place levels' (edges ++ (record { from = i; to = j }) ∷ [])
are_of_wait es place levels levels' edges u t i j k su st same up =
    let fs : List PriorityEvent = Wait u t ∷ [] in
    let d : TaskEdge = record { from = i; to = j } in
    let names : tasks_of (es ++ fs) ≡ tasks_of es = tasks_of-append es fs ∙ append-nil (tasks_of es) in
    let stood : (q : TaskId) (n : ℕ) → StandsAt (es ++ fs) q n → StandsAt es q n = λ q n h. subst (λ (s : List TaskId). slice_get s n ≡ Some q) names h in
    let from : StandsAt (es ++ fs) u i = stands_more es fs u i su in
    let to : StandsAt (es ++ fs) t j = stands_more es fs t j st in
    let lead : Leads (es ++ fs) u t = leads_last es fs u t (inr (0, omega arith, refl)) in
    let edges_stand : (n : ℕ) → n < length (edges ++ d ∷ []) → EdgeStands (es ++ fs) (edge_at (edges ++ d ∷ []) n) =
    edges_push (es ++ fs) edges d (λ n h. edge_stands_more es fs (edge_at edges n) (k.edges_stand n h)) (record { a = u; b = t; from = from; to = to; leads = lead }) in
    record {
      count = same ∙ k.count ∙ ap length (sym names);
      found = λ q n h. stands_more es fs q n (k.found q n h);
      kept = λ q n h. k.kept q n (stood q n h);
      edges_stand = edges_stand;
      leads_stand = λ x y l. elim (leads_cases es fs x y l) [
        | inl w ↦ lead_more es fs edges d x y (k.leads_stand x y w)
        | inr w ↦ lead_last (es ++ fs) edges i j u t x y from to (wait_leads u t x y w)
      ];
      given = λ s q g. elim (given_cases es fs s q g) [
        | inl w ↦ let e = k.given s q w in (e.0, stands_more es fs s e.0 e.1, (let l = up.up e.0 in let m = e.2 in omega (arith, l, m)))
        | inr w ↦ absurd (wait_gives u t s q w)
      ];
      reasons = λ q n h. elim (cases_lt (level_of levels n) (level_of levels' n)) [
        | inl lt ↦
            let g = up.raised n lt in
            let r = reason_more es fs u (level_of levels i) (k.reasons u i su) in
            let w = walk_reaches (es ++ fs) (edges ++ d ∷ []) edges_stand g.1.0 j n t r.from (suc r.steps) to (u, r.reached, lead) g.1.1 in
            let one : w.0 ≡ q = same_Some w.0 q (sym w.2 ∙ h) in
            record { from = r.from; steps = w.1; priority = r.priority; given = r.given; reached = subst (λ (x : TaskId). Reaches (es ++ fs) w.1 r.from x) one w.3; same = r.same ∙ sym g.0 }
        | inr ge ↦
            let e : level_of levels' n ≡ level_of levels n = omega (arith, up.up n, ge) in
            subst (λ (x : ℕ). HasReason (es ++ fs) q x) (sym e) (reason_more es fs q (level_of levels n) (k.reasons q n (stood q n h)))
      ];
    }

-- an unknown task has no place
pub none_here : (es : List PriorityEvent) (place : TaskId → Option ℕ) (levels : List Priority) (edges : List TaskEdge) (t : TaskId) → AreOf es place levels edges → (IsKnown es t → ⊥) → place t ≡ None
none_here es place levels edges t k h = go (place t) refl
  where
    go : (o : Option ℕ) → place t ≡ o → place t ≡ None
    go None e = e
    go (Some i) e = absurd (h (known_from_stands es t i (k.found t i e)))

-- a task has a place exactly where it is known
pub place_known : (es : List PriorityEvent) (place : TaskId → Option ℕ) (levels : List Priority) (edges : List TaskEdge) (t : TaskId) → AreOf es place levels edges
    → (o : Option ℕ) → o ≡ place t → (IsSome o → IsKnown es t) × (IsKnown es t → IsSome o)
place_known es place levels edges t k None e = (λ h. absurd (cc h), λ h. let w = stands_from_known es t h in absurd (cc (e, k.kept t w.0 w.1)))
place_known es place levels edges t k (Some i) e = (λ _. known_from_stands es t i (k.found t i (sym e)), λ _. refl)
