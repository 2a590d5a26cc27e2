-- A job is raised.
use Rattle.swift_executor.proofs.Prelude.{◌≡◌, ◌≢◌, ℕ, ◌<◌, ◌≤◌, List, [], ◌∷◌, Option, None, Some, IfNone, IfSome, is_some, ◌↔◌, false, length, get_or, map, refl, ap, sym, subst, ◌∙◌, inl, inr, arith, cases_eq, cases_lt, eq-eqb, ne_eqb, lt-ltb, le-ltb, All-head, All-tail, IsPermutation-map, IsPermutation-trans, All, IsPermutation, deque_items, VecDeque, TaskId, Priority, rank, Waiting, HasArrival, AreLists, AreWithout, jobs_of, StandsBelow, raised, IsWithout}
use Rattle.swift_executor.specs.QueueInside.Lists.{IsAt}
use Rattle.swift_executor.proofs.OneListOfAll.{all_flat, all_list}

map_same : {X : Type 0} (f : X → X) (xs : List X) → All (λ x. f x ≡ x) xs → map f xs ≡ xs
map_same f [] h = refl
map_same f (x ∷ xs) h = ap (λ (s : List _). f x ∷ s) (map_same f xs (All-tail (λ y. f y ≡ y) x xs h)) ∙ ap (λ y. y ∷ xs) (All-head (λ y. f y ≡ y) x xs h)

module _ {B : Type 0} where
  raised_other : (task : TaskId) (p : Priority) (x : Waiting B) → x.job.task ≢ task → raised task p x ≡ x
  raised_other task p x n = rw (ne_eqb x.job.task.0 task.0 (λ e. n (ap (λ (i : ℕ). let t : TaskId = record { 0 = i } in t) e))) refl

  raised_same : (task : TaskId) (p : Priority) (x : Waiting B) → x.job.task.0 ≡ task.0 → rank p ≤ rank x.priority → raised task p x ≡ x
  raised_same task p x e h = rw (eq-eqb x.job.task.0 task.0 e, le-ltb (rank x.priority) (rank p) h) refl

  -- where no job is of the task, none is raised
  pub raise_without : (task : TaskId) (p : Priority) (jobs : List (Waiting B)) → IsWithout jobs task → map (raised task p) jobs ≡ jobs
  raise_without task p jobs h = map_same (raised {B = B} task p) jobs (λ i d l. raised_other task p (get_or jobs i d) (h i d l))

  -- one that is not lower stays
  raised_high : (task : TaskId) (p : Priority) (x : Waiting B) → rank p ≤ rank x.priority → raised task p x ≡ x
  raised_high task p x h = elim (cases_eq x.job.task.0 task.0) [ inl e ↦ raised_same task p x e h | inr n ↦ raised_other task p x (λ e. n (ap (λ (t : TaskId). t.0) e)) ]

  pub raised_low : (task : TaskId) (p : Priority) (x : Waiting B) → x.job.task ≡ task → rank x.priority < rank p → raised task p x ≡ record x { priority = p }
  raised_low task p x e h = rw (eq-eqb x.job.task.0 task.0 (ap (λ (t : TaskId). t.0) e), lt-ltb (rank x.priority) (rank p) h) refl

  -- one job is raised where the others are of other tasks
  pub raise_one : (task : TaskId) (p : Priority) (old rest new : List (Waiting B)) (x y : Waiting B) → IsPermutation old (x ∷ rest) → IsWithout rest task → raised task p x ≡ y → IsPermutation (y ∷ rest) new → IsPermutation (map (raised task p) old) new
  raise_one task p old rest new x y h without same k =
      let all = raise_without task p rest without in
      IsPermutation-trans (map (raised {B = B} task p) old) (raised task p x ∷ map (raised {B = B} task p) rest) new (IsPermutation-map (raised {B = B} task p) old (x ∷ rest) h)
      (subst (λ (z : Waiting B). IsPermutation (z ∷ map (raised {B = B} task p) rest) new) (sym same) (subst (λ (s : List (Waiting B)). IsPermutation (y ∷ s) new) (sym all) k))

module _ {B Z : Type 0} where
  -- what is known of all jobs is known of those of a list
  pub known_list : (lists : List (VecDeque (Waiting B) Z)) (k : ℕ) (d : VecDeque (Waiting B) Z) (task : TaskId) (o : Option ℕ) → k < length lists → IfSome o (HasArrival (jobs_of lists) task) → IfSome o (HasArrival (get_or lists k d).items task)
  known_list lists k d task None lt h = tt
  known_list lists k d task (Some n) lt h = all_list (deque_items {X = Waiting B} {Z = Z}) (λ (x : Waiting B). x.job.task ≡ task → x.arrival ≡ n) lists k d lt h

  -- where no list below has the task, none is raised
  pub raise_none : (room : ℕ) (lists : List (VecDeque (Waiting B) Z)) (task : TaskId) (p : Priority) → AreLists room lists → AreWithout (rank p) lists task → map (raised task p) (jobs_of lists) ≡ jobs_of lists
  raise_none room lists task p h without =
      map_same (raised {B = B} task p) (jobs_of lists) (all_flat (deque_items {X = Waiting B} {Z = Z}) (λ (x : Waiting B). raised task p x ≡ x) lists (λ k d lt i e l. elim (cases_lt k (rank p)) [
        | inl below ↦ raised_other task p (get_or (get_or lists k d).items i e) (without k d below i e l)
        | inr ge ↦ let r = (h.each k d lt).ranks i e l in raised_high task p (get_or (get_or lists k d).items i e) (omega (arith, r, ge))
      ]))

  -- the job that was found is of the task, and lower
  pub stands : (room : ℕ) (lists : List (VecDeque (Waiting B) Z)) (task : TaskId) (level list place : ℕ) (x : Waiting B) → AreLists room lists → level ≤ 4 → StandsBelow level lists task list place → IsAt lists list place x → (x.job.task ≡ task) × (rank x.priority < level)
  stands room [] task level list place x h few s at = let four = h.four in absurd (omega (arith, four))
  stands room (l ∷ ls) task level list place x h few s at =
      let here = s.here l in
      let low = s.low in
      let four = h.four in
      let is = at l x in
      let r = (h.each list l (omega (arith, low, few, four))).ranks place x here.within in
      let same = ap (λ (y : Waiting B). rank y.priority) is in
      (ap (λ (y : Waiting B). y.job.task) is ∙ here.task_is x, omega (arith, r, same, low))

  -- a task is found, or has no job inside
  pub found_or_without : (room : ℕ) (lists : List (VecDeque (Waiting B) Z)) (task : TaskId) (o : Option (ℕ × ℕ)) → AreLists room lists → IfNone o (AreWithout 4 lists task) → IfSome o (λ r. StandsBelow 4 lists task r.0 r.1) → (is_some o ≡ false) ↔ IsWithout (jobs_of lists) task
  found_or_without room lists task None h none some =
      (λ _. let four = h.four in all_flat (deque_items {X = Waiting B} {Z = Z}) (λ (x : Waiting B). x.job.task ≢ task) lists (λ k d lt. none k d (omega (arith, lt, four))), λ _. refl)
  found_or_without room [] task (Some r) h none some = let four = h.four in absurd (omega (arith, four))
  found_or_without room (l ∷ ls) task (Some r) h none some =
      let here = some.here l in
      let low = some.low in
      let four = h.four in (
        λ e. absurd (cc),
        λ w. absurd (
            let d : Waiting B = get_or [] 0 (at (get_or (l ∷ ls) r.0 l).items r.1 here.within) in
            all_list (deque_items {X = Waiting B} {Z = Z}) (λ (x : Waiting B). x.job.task ≢ task) (l ∷ ls) r.0 l (omega (arith, low, four)) w r.1 d here.within (here.task_is d)
            ),
      )
    where
      at : (xs : List (Waiting B)) (i : ℕ) → i < length xs → Waiting B
      at [] i lt = absurd (omega (arith, lt))
      at (x ∷ xs) i lt = x
