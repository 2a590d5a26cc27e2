-- A list of levels: filled from the first task on, and which events leave it as it is.
use Rattle.swift_ledger.proofs.Prelude.{◌≡◌, ℕ, zero, suc, ◌<◌, ◌≤◌, List, [], ◌∷◌, ◌++◌, length, take, take_all, get_or, refl, sym, ◌∙◌, ap, arith, subst, inl, inr, length-append, slice_index_or, Option, Some, None, IsSome, is_some, cases_lt, false≢true, take-append-le, rank, TaskId, Priority, IsPriority, IsKnown, Event, Root, Free, Child, Wait, life_of, origin_in, link_in, links_of, origin-push, links_of-push_some, links_of-push_none, IsMade, IsLevel, AreLevels, HaveStayed}
use Rattle.swift_escalation.specs.declared.waits.PriorityEvent.{PriorityEvent as Link}
use Rattle.swift_escalation.specs.declared.waits.PriorityEvent.TheVariants as link
use Rattle.swift_ledger.proofs.LinkLemmas.{made_known}
use Rattle.swift_ledger.proofs.WaitLemmas.{priority_stays}

last_or : (xs : List ℕ) (y d : ℕ) → get_or (xs ++ y ∷ []) (length xs) d ≡ y
last_or [] y d = refl
last_or (x ∷ xs) y d = last_or xs y d

front_or : (xs : List ℕ) (y d k : ℕ) → k < length xs → get_or (xs ++ y ∷ []) k d ≡ get_or xs k d
front_or [] y d k lt = absurd (omega (arith, lt))
front_or (x ∷ xs) y d zero lt = refl
front_or (x ∷ xs) y d (suc k) lt = front_or xs y d k (omega (arith, lt))

abbrev number : ℕ → TaskId
number k = record { 0 = k }

-- one level more
pub each_more : (log : List Event) (xs ys : List ℕ) (k y : ℕ) → ys ≡ xs ++ y ∷ [] → length xs ≡ k → ((t : TaskId) → t.0 < length xs → IsLevel log t (slice_index_or xs t.0 0)) → IsLevel log (number k) y
    → (t : TaskId) → t.0 < length ys → IsLevel log t (slice_index_or ys t.0 0)
each_more log xs ys k y is long each this t lt = elim (cases_lt t.0 (length xs)) [
  | inl low ↦ subst (IsLevel log t) (sym (ap (λ (zs : List ℕ). get_or zs t.0 0) is ∙ front_or xs y 0 t.0 low)) (each t low)
  | inr high ↦ (let sum = ap length is ∙ length-append xs (y ∷ []) in
      let at : t.0 ≡ length xs = omega (arith, lt, high, sum) in
      let value : slice_index_or ys t.0 0 ≡ y = ap (λ (zs : List ℕ). get_or zs t.0 0) is ∙ ap (λ (n : ℕ). get_or (xs ++ y ∷ []) n 0) at ∙ last_or xs y 0 in
      subst (IsLevel log t) (sym value) (subst (λ (n : ℕ). IsLevel log (number n) y) (sym (at ∙ long)) this))
]

-- which events leave each level as it is

-- an event that is nothing for priorities makes no task
link_or_origin : (e : Event) → link_in e ≡ None → origin_in e ≡ None
link_or_origin (Root t p) none = absurd cc
link_or_origin (Free t by p d) none = absurd cc
link_or_origin (Child t o g p) none = absurd cc
link_or_origin _ none = refl

level_stays : (log : List Event) (e : Event) (t : TaskId) (l : ℕ) → link_in e ≡ None → IsLevel log t l → IsLevel (log ++ e ∷ []) t l
level_stays log e t l none (inl unmade) = inl (origin-push t.0 log e (link_or_origin e none) ∙ unmade.0, unmade.1)
level_stays log e t l none (inr made) = inr (made.0, subst (λ (links : List Link). IsPriority links t made.0) (sym (links_of-push_none log e none)) made.1, made.2, ap is_some (origin-push t.0 log e (link_or_origin e none)) ∙ made.3)

-- such an event leaves each level as it is
pub levels_stay : (log : List Event) (e : Event) (ls : List ℕ) → link_in e ≡ None → AreLevels log ls → AreLevels (log ++ e ∷ []) ls
levels_stay log e ls none are = record {
  each = λ t. level_stays log e t (slice_index_or ls t.0 0) none (are.each t);
  few = are.few;
}

pub not_some : {A : Type 0} (o : Option A) → (IsSome o → ⊥) → o ≡ None
not_some (Some x) h = absurd (h refl)
not_some None h = refl

-- the level of a task that priorities do not know
pub none_level : (log : List Event) (t : TaskId) → (IsKnown (links_of log) t → ⊥) → IsLevel log t 0
none_level log t unknown = inl (not_some (life_of t.0 log).origin (λ made. unknown (made_known log t made)), refl)

-- so does a wait for a task that is at least as urgent

level_at_wait : (log : List Event) (u t : TaskId) (p q : Priority) → IsPriority (links_of log) u p → IsPriority (links_of log) t q → rank p ≤ rank q
    → (x : TaskId) (l : ℕ) → IsLevel log x l → IsLevel (log ++ Wait u t ∷ []) x l
level_at_wait log u t p q waiter awaited le x l (inl unmade) = inl (origin-push x.0 log (Wait u t) refl ∙ unmade.0, unmade.1)
level_at_wait log u t p q waiter awaited le x l (inr made) = inr (
  made.0,
  subst (λ (links : List Link). IsPriority links x made.0) (sym (links_of-push_some log (Wait u t) (link.Wait u t) refl))
      (priority_stays (links_of log) u t p q waiter awaited le x made.0 made.1),
  made.2,
  ap is_some (origin-push x.0 log (Wait u t) refl) ∙ made.3,
)

-- the priority that a level says
priority_at : (log : List Event) (t : TaskId) (l : ℕ) → IsMade log t → IsLevel log t l → (p : Priority) × IsPriority (links_of log) t p × (l ≡ suc (rank p))
priority_at log t l made (inl unmade) = absurd (false≢true (sym (ap is_some unmade.0) ∙ made))
priority_at log t l made (inr is) = (is.0, is.1, is.2)

pub levels_at_wait : (log : List Event) (u t : TaskId) (l m : ℕ) (ls : List ℕ) → IsMade log u → IsMade log t → IsLevel log u l → IsLevel log t m → l ≤ m → AreLevels log ls → AreLevels (log ++ Wait u t ∷ []) ls
levels_at_wait log u t l m ls u_made t_made u_level t_level le are =
    let waiter = priority_at log u l u_made u_level in
    let awaited = priority_at log t m t_made t_level in
    let urgent : rank waiter.0 ≤ rank awaited.0 = omega (arith, le, waiter.2, awaited.2) in
    record {
      each = λ x. level_at_wait log u t waiter.0 awaited.0 waiter.1 awaited.1 urgent x (slice_index_or ls x.0 0) (are.each x);
      few = are.few;
    }

-- nothing has changed since all events
pub stayed_now : (log : List Event) (n : ℕ) → length log ≤ n → HaveStayed log n
stayed_now log n all k most levels are = subst (λ (es : List Event). AreLevels es levels) (take_all k log (omega (arith, all, most))) are

-- one more event, by which no level changes
pub stayed_on : (log : List Event) (e : Event) (n : ℕ) → ((levels : List ℕ) → AreLevels log levels → AreLevels (log ++ e ∷ []) levels) → HaveStayed log n → HaveStayed (log ++ e ∷ []) n
stayed_on log e n stays stayed k most levels are = elim (cases_lt (length log) k) [
  | inl past ↦ (let sum = length-append log (e ∷ []) in
      subst (λ (es : List Event). AreLevels es levels) (take_all k (log ++ e ∷ []) (omega (arith, past, sum))) are)
  | inr within ↦ stays levels (stayed k most levels (subst (λ (es : List Event). AreLevels es levels) (take-append-le k log (e ∷ []) (omega (arith, within))) are))
]
