-- The queue stays orderly: what a change of its jobs leaves true of each two of them.
use Rattle.swift_executor.proofs.Prelude.{◌≡◌, ◌≢◌, ℕ, ◌<◌, ◌≤◌, Bool, true, false, List, [], ◌∷◌, if◌then◌else◌, length, get_or, map, refl, ap, sym, subst, ◌∙◌, arith, ◌&&◌, eqb, nat_lt, get_or-map, length-map, All-cons, All-head, All-map, All-tail, All-permutation, length_permutation, All, AllPairs, IsPermutation, TaskId, Priority, rank, raised, IsOrderly, IsRestorable, IsWithout, QueueView, Waiting}
use Rattle.swift_executor.proofs.PairsInAnyOrder.{pairs_added, pairs_first, pairs_permuted, pairs_rest}

module _ {B : Type 0} where
  abbrev Arrivals : Waiting B → Waiting B → Type 0
  Arrivals x y = x.arrival ≢ y.arrival

  abbrev Tasks : Waiting B → Waiting B → Type 0
  Tasks x y = x.job.task ≢ y.job.task

  -- none is inside
  pub orderly_new : (room : ℕ) → IsOrderly {B = B} (record { jobs = []; room = room; arrived = 0 })
  orderly_new room = record {
    few = omega arith;
    below = λ k d within. absurd (omega (arith, within));
    arrivals = λ i j d less within. absurd (omega (arith, within));
    tasks = λ i j d less within. absurd (omega (arith, within));
  }

  -- one is added
  pub orderly_add : (q : QueueView B) (x : Waiting B) (new : List (Waiting B)) (arrived : ℕ) → IsOrderly q → IsPermutation (x ∷ q.jobs) new → length q.jobs < q.room → q.arrived ≤ arrived → x.arrival < arrived → All (λ y. y.arrival ≢ x.arrival) q.jobs → IsWithout q.jobs x.job.task
      → IsOrderly (record { jobs = new; room = q.room; arrived = arrived })
  orderly_add q x new arrived h p room up below apart without =
      let len = length_permutation (x ∷ q.jobs) new p in
      record {
        few = omega (arith, len, room);
        below = All-permutation (λ (y : Waiting B). y.arrival < arrived) (x ∷ q.jobs) new p (All-cons (λ (y : Waiting B). y.arrival < arrived) x q.jobs below (λ k d l. let b = h.below k d l in omega (arith, b, up)));
        arrivals = pairs_added Arrivals (λ y z n e. n (sym e)) x q.jobs new p apart h.arrivals;
        tasks = pairs_added Tasks (λ y z n e. n (sym e)) x q.jobs new p without h.tasks;
      }

  -- one is taken
  pub orderly_take : (q : QueueView B) (x : Waiting B) (new : List (Waiting B)) → IsOrderly q → IsPermutation q.jobs (x ∷ new) → IsOrderly (record { jobs = new; room = q.room; arrived = q.arrived })
  orderly_take q x new h p =
      let len = length_permutation q.jobs (x ∷ new) p in
      let few = h.few in
      let P : Waiting B → Type 0 = λ y. y.arrival < q.arrived in
      record {
        few = omega (arith, len, few);
        below = All-tail P x new (All-permutation P q.jobs (x ∷ new) p h.below);
        arrivals = pairs_rest Arrivals (λ y z n e. n (sym e)) q.jobs x new p h.arrivals;
        tasks = pairs_rest Tasks (λ y z n e. n (sym e)) q.jobs x new p h.tasks;
      }

  -- and may then be added again
  pub restorable : (q : QueueView B) (x : Waiting B) (new : List (Waiting B)) → IsOrderly q → IsPermutation q.jobs (x ∷ new) → IsRestorable (record { jobs = new; room = q.room; arrived = q.arrived }) x.job.task x.arrival
  restorable q x new h p =
      let len = length_permutation q.jobs (x ∷ new) p in
      let few = h.few in
      let P : Waiting B → Type 0 = λ y. y.arrival < q.arrived in
      record {
        room = omega (arith, len, few);
        below = All-head P x new (All-permutation P q.jobs (x ∷ new) p h.below);
        apart = pairs_first Arrivals (λ y z n e. n (sym e)) q.jobs x new p h.arrivals;
        without = pairs_first Tasks (λ y z n e. n (sym e)) q.jobs x new p h.tasks;
      }

  -- raising changes the priority alone
  pub raised_job : (task : TaskId) (p : Priority) (x : Waiting B) → (raised task p x).job.task ≡ x.job.task
  raised_job task p x = by (eqb x.job.task.0 task.0 && nat_lt (rank x.priority) (rank p))
    where
      by : (b : Bool) → (let y : Waiting B = if b then record x { priority = p } else x in y.job.task) ≡ x.job.task
      by true = refl
      by false = refl

  pub raised_arrival : (task : TaskId) (p : Priority) (x : Waiting B) → (raised task p x).arrival ≡ x.arrival
  raised_arrival task p x = by (eqb x.job.task.0 task.0 && nat_lt (rank x.priority) (rank p))
    where
      by : (b : Bool) → (let y : Waiting B = if b then record x { priority = p } else x in y.arrival) ≡ x.arrival
      by true = refl
      by false = refl

  raised_pairs : (R : ℕ → ℕ → Type 0) (n : Waiting B → ℕ) (task : TaskId) (p : Priority) → ((x : Waiting B) → n (raised task p x) ≡ n x) → (jobs : List (Waiting B)) → AllPairs (λ x y. R (n x) (n y)) jobs → AllPairs (λ x y. R (n x) (n y)) (map (raised task p) jobs)
  raised_pairs R n task p same jobs h i j d lt l =
      let len = length-map jobs (raised {B = B} task p) in
      let lj : j < length jobs = omega (arith, l, len) in
      let li : i < length jobs = omega (arith, lj, lt) in
      let x : n (get_or (map (raised task p) jobs) i d) ≡ n (get_or jobs i d) = ap n (get_or-map (raised {B = B} task p) jobs i d d li) ∙ same (get_or jobs i d) in
      let y : n (get_or (map (raised task p) jobs) j d) ≡ n (get_or jobs j d) = ap n (get_or-map (raised {B = B} task p) jobs j d d lj) ∙ same (get_or jobs j d) in
      subst (λ (m : ℕ). R m (n (get_or (map (raised task p) jobs) j d))) (sym x) (subst (λ (m : ℕ). R (n (get_or jobs i d)) m) (sym y) (h i j d lt lj))

  -- some are raised
  pub orderly_raise : (q : QueueView B) (task : TaskId) (p : Priority) (new : List (Waiting B)) → IsOrderly q → IsPermutation (map (raised task p) q.jobs) new → IsOrderly (record { jobs = new; room = q.room; arrived = q.arrived })
  orderly_raise q task p new h k =
      let r : List (Waiting B) → List (Waiting B) = map (raised {B = B} task p) in
      let len = length_permutation (r q.jobs) new k in
      let size = length-map q.jobs (raised {B = B} task p) in
      let few = h.few in
      let P : Waiting B → Type 0 = λ y. y.arrival < q.arrived in
      let task_number : TaskId → ℕ = λ t. t.0 in
      record {
        few = omega (arith, len, size, few);
        below = All-permutation P (r q.jobs) new k (All-map P (raised {B = B} task p) q.jobs (λ i d l. let b = h.below i d l in let a = raised_arrival task p (get_or q.jobs i d) in omega (arith, a, b)));
        arrivals = pairs_permuted Arrivals (λ y z n e. n (sym e)) (r q.jobs) new k (raised_pairs (λ m n. m ≢ n) (λ (x : Waiting B). x.arrival) task p (raised_arrival task p) q.jobs h.arrivals);
        tasks = pairs_permuted Tasks (λ y z n e. n (sym e)) (r q.jobs) new k (λ i j d lt l e. raised_pairs (λ m n. m ≢ n) (λ (x : Waiting B). x.job.task.0) task p (λ x. ap task_number (raised_job task p x)) q.jobs
            (λ i j d lt l e. h.tasks i j d lt l (ap (λ (n : ℕ). let t : TaskId = record { 0 = n } in t) e)) i j d lt l (ap task_number e));
      }
