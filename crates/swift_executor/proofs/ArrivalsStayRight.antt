-- The arrival numbers that are noted by task stay those of the jobs inside.
use Rattle.swift_executor.proofs.Prelude.{Option, None, Some, is_some, ◌≡◌, ◌≢◌, ℕ, ◌<◌, false, List, [], ◌∷◌, ◌↔◌, get_or, replicate, set, map, refl, ap, sym, subst, ◌∙◌, inl, inr, arith, get_or-set_same, get_or-set_other, length-set, cases_eq, get_or-map, get_or-replicate, length-map, length-replicate, All-cons, All-head, All-map, All-tail, All-permutation, IsPermutation-sym, AllPairs, IsPermutation, TaskId, Priority, AreArrivals, IsArrivalOf, HasArrival, raised, IsWithout, Waiting}
use Rattle.swift_executor.proofs.PairsInAnyOrder.{pairs_first}
use Rattle.swift_executor.proofs.QueueStaysOrderly.{raised_arrival, raised_job}

module _ {B : Type 0} where
  abbrev Tasks : Waiting B → Waiting B → Type 0
  Tasks x y = x.job.task ≢ y.job.task

  -- what is not of the task, among some and in their new order
  without_added : (x : Waiting B) (xs ys : List (Waiting B)) (t : TaskId) → IsPermutation (x ∷ xs) ys → x.job.task ≢ t → IsWithout xs t ↔ IsWithout ys t
  without_added x xs ys t p n =
      let P : Waiting B → Type 0 = λ y. y.job.task ≢ t in
      (λ h. All-permutation P (x ∷ xs) ys p (All-cons P x xs n h), λ h. All-tail P x xs (All-permutation P ys (x ∷ xs) (IsPermutation-sym (x ∷ xs) ys p) h))

  -- a note is of the jobs, in whatever order
  arrival_by : (m : Option ℕ) (xs ys : List (Waiting B)) (t : TaskId) → IsWithout xs t ↔ IsWithout ys t → ((n : ℕ) → HasArrival xs t n → HasArrival ys t n) → IsArrivalOf m xs t → IsArrivalOf m ys t
  arrival_by None xs ys t same known h = record { none = same.0 h.none; some = tt; inside = tt }
  arrival_by (Some n) xs ys t same known h = record { none = tt; some = known n h.some; inside = λ w. h.inside (same.1 w) }

  -- none is inside
  pub arrivals_new : (count : ℕ) → AreArrivals {B = B} (replicate count None) []
  arrivals_new count t within =
      subst (λ (m : Option ℕ). IsArrivalOf {B = B} m [] (record { 0 = t })) (sym (get_or-replicate count t None None (subst (λ (n : ℕ). t < n) (length-replicate count None) within)))
      (record { none = λ k d within. absurd (omega (arith, within)); some = tt; inside = tt })

  pub arrivals_add : (noted : List (Option ℕ)) (x : Waiting B) (xs ys : List (Waiting B)) → AreArrivals noted xs → IsWithout xs x.job.task → IsPermutation (x ∷ xs) ys → AreArrivals (set noted x.job.task.0 (Some x.arrival)) ys
  arrivals_add noted x xs ys h without p t l =
      let at = x.job.task.0 in
      let m : Option ℕ = Some x.arrival in
      let id : TaskId = record { 0 = t } in
      let len = length-set noted at m in
      elim (cases_eq t at) [
        | inl e ↦
            let here : get_or (set noted at m) t None ≡ m = subst (λ (k : ℕ). get_or (set noted at m) k None ≡ m) (sym e) (get_or-set_same noted at m None (omega (arith, l, len, e))) in
            let task : id ≡ x.job.task = ap (λ (n : ℕ). let i : TaskId = record { 0 = n } in i) e in
            let P : Waiting B → Type 0 = λ y. y.job.task ≢ id in
            let Q : Waiting B → Type 0 = λ y. y.job.task ≡ id → y.arrival ≡ x.arrival in
            subst (λ (o : Option ℕ). IsArrivalOf o ys id) (sym here) record {
              none = tt;
              some = All-permutation Q (x ∷ xs) ys p (All-cons Q x xs (λ _. refl) (λ k d lk same. absurd (without k d lk (same ∙ task))));
              inside = λ w. All-head P x xs (All-permutation P ys (x ∷ xs) (IsPermutation-sym (x ∷ xs) ys p) w) (sym task);
            }
        | inr n ↦
            let other : x.job.task ≢ id = λ e. n (sym (ap (λ (i : TaskId). i.0) e)) in
            let there = get_or-set_other noted at t m None n in
            let same = without_added x xs ys id p other in
            subst (λ (o : Option ℕ). IsArrivalOf o ys id) (sym there) (arrival_by (get_or noted t None) xs ys id same (λ n has.
            let Q : Waiting B → Type 0 = λ y. y.job.task ≡ id → y.arrival ≡ n in All-permutation Q (x ∷ xs) ys p (All-cons Q x xs (λ e. absurd (other e)) has)) (h t (omega (arith, l, len))))
      ]

  pub arrivals_take : (noted : List (Option ℕ)) (x : Waiting B) (xs ys : List (Waiting B)) → AreArrivals noted xs → AllPairs (λ (x y : Waiting B). x.job.task ≢ y.job.task) xs → IsPermutation xs (x ∷ ys) → AreArrivals (set noted x.job.task.0 None) ys
  arrivals_take noted x xs ys h tasks p t l =
      let at = x.job.task.0 in
      let m : Option ℕ = None in
      let id : TaskId = record { 0 = t } in
      let len = length-set noted at m in
      elim (cases_eq t at) [
        | inl e ↦
            let here : get_or (set noted at m) t None ≡ m = subst (λ (k : ℕ). get_or (set noted at m) k None ≡ m) (sym e) (get_or-set_same noted at m None (omega (arith, l, len, e))) in
            let task : id ≡ x.job.task = ap (λ (n : ℕ). let i : TaskId = record { 0 = n } in i) e in
            subst (λ (o : Option ℕ). IsArrivalOf o ys id) (sym here) record {
              none = λ k d lk same. pairs_first Tasks (λ y z n e. n (sym e)) xs x ys p tasks k d lk (same ∙ task);
              some = tt;
              inside = tt;
            }
        | inr n ↦
            let other : x.job.task ≢ id = λ e. n (sym (ap (λ (i : TaskId). i.0) e)) in
            let there = get_or-set_other noted at t m None n in
            let same = without_added x ys xs id (IsPermutation-sym xs (x ∷ ys) p) other in
            subst (λ (o : Option ℕ). IsArrivalOf o ys id) (sym there) (arrival_by (get_or noted t None) xs ys id (same.1, same.0) (λ n has.
            let Q : Waiting B → Type 0 = λ y. y.job.task ≡ id → y.arrival ≡ n in All-tail Q x ys (All-permutation Q xs (x ∷ ys) p has)) (h t (omega (arith, l, len))))
      ]

  pub arrivals_raise : (noted : List (Option ℕ)) (task : TaskId) (p : Priority) (xs ys : List (Waiting B)) → AreArrivals noted xs → IsPermutation (map (raised task p) xs) ys → AreArrivals noted ys
  arrivals_raise noted task p xs ys h k t l =
      let id : TaskId = record { 0 = t } in
      let r : List (Waiting B) → List (Waiting B) = map (raised {B = B} task p) in
      let P : Waiting B → Type 0 = λ y. y.job.task ≢ id in
      arrival_by (get_or noted t None) xs ys id (
        λ no. All-permutation P (r xs) ys k (All-map P (raised {B = B} task p) xs (λ i d lt e. no i d lt (sym (raised_job task p (get_or xs i d)) ∙ e))),
        λ w. λ i d lt e.
            All-permutation P ys (r xs) (IsPermutation-sym (r xs) ys k) w i d (omega (arith, lt, length-map xs (raised {B = B} task p)))
            (ap (λ (y : Waiting B). y.job.task) (get_or-map (raised {B = B} task p) xs i d d lt) ∙ raised_job task p (get_or xs i d) ∙ e),
      ) (λ n has.
      let Q : Waiting B → Type 0 = λ y. y.job.task ≡ id → y.arrival ≡ n in
      All-permutation Q (r xs) ys k (All-map Q (raised {B = B} task p) xs (λ i d lt e. raised_arrival task p (get_or xs i d) ∙ has i d lt (sym (raised_job task p (get_or xs i d)) ∙ e)))) (h t l)

  -- a task with an empty note has no job inside
  pub no_arrival : (m : Option ℕ) (jobs : List (Waiting B)) (t : TaskId) → IsArrivalOf m jobs t → is_some m ≡ false → IsWithout jobs t
  no_arrival None jobs t h e = h.none
  no_arrival (Some n) jobs t h e = absurd (cc)
