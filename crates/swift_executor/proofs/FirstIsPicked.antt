-- The first jobs of lists, among all.
use Rattle.swift_executor.proofs.Prelude.{◌≡◌, ℕ, zero, suc, ◌+◌, ◌<◌, ◌≤◌, List, [], ◌∷◌, Option, None, Some, IfSome, length, get_or, refl, ap, sym, subst, ◌∙◌, inl, inr, arith, cases_eq, cases_lt, get_or_default, All-head, All, deque_items, VecDeque, rank, Waiting, IsByArrival, StartsWith, AreEmptyFrom, AreLists, HasOldest, IsFilled, IsFirstOf, IsHighest, IsOldestBelow, jobs_of, IsOlder, PicksFirst}
use Rattle.swift_executor.proofs.OneListOfAll.{all_flat, list_short, none_flat}

module _ {B : Type 0} where
  -- the first of a by_arrival list is the oldest
  pub head_oldest : (jobs : List (Waiting B)) (x : Waiting B) → IsByArrival jobs → StartsWith jobs x → All (IsOlder x) jobs
  head_oldest jobs x h s k d l =
      let up : IsByArrival (x ∷ s.rest) = subst (λ (xs : List (Waiting B)). IsByArrival xs) s.is h in
      subst (λ (xs : List (Waiting B)). k < length xs → x.arrival ≤ (get_or xs k d).arrival) (sym s.is) (by k) l
    where
      by : (k : ℕ) → k < length (x ∷ s.rest) → x.arrival ≤ (get_or (x ∷ s.rest) k d).arrival
      by zero lt = omega arith
      by (suc i) lt = let up : IsByArrival (x ∷ s.rest) = subst (λ (xs : List (Waiting B)). IsByArrival xs) s.is h in let r = up 0 (suc i) d (omega arith) lt in omega (arith, r)

  head_holds : (P : Waiting B → Type 0) (jobs : List (Waiting B)) (x : Waiting B) → StartsWith jobs x → All P jobs → P x
  head_holds P jobs x s h = All-head P x s.rest (subst (λ (xs : List (Waiting B)). All P xs) s.is h)

  pub starts : (jobs : List (Waiting B)) (x : Waiting B) → 0 < length jobs → x ≡ get_or jobs 0 x → StartsWith jobs x
  starts [] x lt e = absurd (omega (arith, lt))
  starts (y ∷ ys) x lt e = record { rest = ys; is = ap (λ (z : Waiting B). z ∷ ys) (sym e) }

  same_head : (x y : Waiting B) (jobs : List (Waiting B)) → StartsWith jobs x → StartsWith jobs y → x ≡ y
  same_head x y jobs s t = ap (λ (xs : List (Waiting B)). get_or xs 0 x) (sym s.is ∙ t.is)

module _ {B Z : Type 0} where
  -- the first of the highest list that is not empty is picked
  pub top_first : (room : ℕ) (lists : List (VecDeque (Waiting B) Z)) (level : ℕ) (x : Waiting B) → AreLists room lists → IsHighest lists level → IsFirstOf lists level x → All (PicksFirst x) (jobs_of lists)
  top_first room lists level x h top head =
      let within = top.filled.within in
      all_flat (deque_items {X = Waiting B} {Z = Z}) (PicksFirst x) lists (λ k d lt i e l.
      let list = h.each level d within in
      let r : rank x.priority ≡ level = head_holds (λ (y : Waiting B). rank y.priority ≡ level) (get_or lists level d).items x (head d) list.ranks in
      let y = (h.each k d lt).ranks i e l in
      elim (cases_lt k level) [
        | inl below ↦ (omega (arith, r, y, below), λ same. absurd (omega (arith, same, r, y, below)))
        | inr ge ↦ elim (cases_eq k level) [
          | inl eq ↦ (
            omega (arith, r, y, eq),
            λ same. head_oldest (get_or lists k d).items x (h.each k d lt).by_arrival (subst (λ (j : ℕ). StartsWith (get_or lists j d).items x) (sym eq) (head d)) i e l,
          )
          | inr ne ↦ let none = top.above k d (omega (arith, ge, ne)) lt in absurd (omega (arith, none, l))
        ]
      ])

  -- a list that is not empty has a job, and lists that are empty have none
  pub filled_some : (lists : List (VecDeque (Waiting B) Z)) (level : ℕ) → IsFilled lists level → 0 < length (jobs_of lists)
  filled_some [] level h = let w = h.within in absurd (omega (arith, w))
  filled_some (l ∷ ls) level h = let s = h.some l in let short = list_short (deque_items {X = Waiting B} {Z = Z}) (l ∷ ls) level l h.within in omega (arith, s, short)

  pub empty_none : (lists : List (VecDeque (Waiting B) Z)) → AreEmptyFrom 0 lists → length (jobs_of lists) ≡ 0
  empty_none lists h = none_flat (deque_items {X = Waiting B} {Z = Z}) lists (λ k d lt. h k d (omega arith) lt)

  -- the first of the list that has the oldest
  pub oldest_first : (lists : List (VecDeque (Waiting B) Z)) (level : ℕ) (x : Waiting B) → HasOldest lists level → IsFirstOf lists level x → All (IsOlder x) (jobs_of lists)
  oldest_first [] level x h head = let w = h.filled.within in absurd (omega (arith, w))
  oldest_first (l ∷ ls) level x h head = h.first x l (head l)

  -- the list that was found to have it, when all were seen
  pub least_oldest : (lists : List (VecDeque (Waiting B) Z)) (level arrival : ℕ) → IsOldestBelow (length lists) lists (Some (level, arrival)) → HasOldest lists level
  least_oldest lists level arrival h = record {
    filled = record {
      within = h.list;
      some = λ d. let s = (h.some d).2 in subst (λ (xs : List (Waiting B)). 0 < length xs) (sym s.is) (omega arith);
    };
    first = λ x d s.
        let o = h.some d in
        let same : x.arrival ≡ arrival = ap (λ (y : Waiting B). y.arrival) (same_head x o.0 (get_or lists level d).items s o.2) ∙ o.1 in
        all_flat (deque_items {X = Waiting B} {Z = Z}) (IsOlder x) lists (λ k e lt i f l. let le = h.least k e lt i f l in omega (arith, le, same));
  }

  -- one that begins with the oldest so far
  pub least_new : (level : ℕ) (lists : List (VecDeque (Waiting B) Z)) (found : Option (ℕ × ℕ)) (x : Waiting B) → ((d : VecDeque (Waiting B) Z) → StartsWith (get_or lists level d).items x) → ((d : VecDeque (Waiting B) Z) → IsByArrival (get_or lists level d).items)
      → IfSome found (λ f. x.arrival ≤ f.1) → IsOldestBelow level lists found → IsOldestBelow (level + 1) lists (Some (level, x.arrival))
  least_new level lists found x s up le h = record {
    none = tt;
    list = omega arith;
    some = λ d. (x, refl, s d);
    least = λ k d lt. elim (cases_eq k level) [
      | inl eq ↦ subst (λ (j : ℕ). All (λ y. x.arrival ≤ y.arrival) (get_or lists j d).items) (sym eq) (head_oldest (get_or lists level d).items x (up d) (s d))
      | inr ne ↦ by found h le k d (omega (arith, lt, ne))
    ];
  }
    where
      by : (found : Option (ℕ × ℕ)) → IsOldestBelow level lists found → IfSome found (λ f. x.arrival ≤ f.1) → (k : ℕ) (d : VecDeque (Waiting B) Z) → k < level → All (λ y. x.arrival ≤ y.arrival) (get_or lists k d).items
      by None h le k d lt = λ i e l. let none = h.none k d lt in absurd (omega (arith, none, l))
      by (Some f) h le k d lt = λ i e l. let r = h.least k d lt i e l in omega (arith, r, le)

  -- one that begins with a newer job
  pub least_old : (level : ℕ) (lists : List (VecDeque (Waiting B) Z)) (f : ℕ × ℕ) (x : Waiting B) → ((d : VecDeque (Waiting B) Z) → StartsWith (get_or lists level d).items x) → ((d : VecDeque (Waiting B) Z) → IsByArrival (get_or lists level d).items)
      → f.1 ≤ x.arrival → IsOldestBelow level lists (Some f) → IsOldestBelow (level + 1) lists (Some f)
  least_old level lists f x s up le h = record {
    none = tt;
    list = let l = h.list in omega (arith, l);
    some = h.some;
    least = λ k d lt. elim (cases_eq k level) [
      | inl eq ↦ subst (λ (j : ℕ). All (λ y. f.1 ≤ y.arrival) (get_or lists j d).items) (sym eq) (λ i e l. let r = head_oldest (get_or lists level d).items x (up d) (s d) i e l in omega (arith, r, le))
      | inr ne ↦ h.least k d (omega (arith, lt, ne))
    ];
  }

  pub starts_any : (lists : List (VecDeque (Waiting B) Z)) (level : ℕ) (d : VecDeque (Waiting B) Z) (x : Waiting B) → level < length lists → StartsWith (get_or lists level d).items x → IsFirstOf lists level x
  starts_any lists level d x lt s e = subst (λ (l : VecDeque (Waiting B) Z). StartsWith l.items x) (get_or_default lists level d e lt) s
