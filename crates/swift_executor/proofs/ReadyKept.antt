-- What the ready jobs keep when one is added, taken or counted anew.
use Rattle.swift_executor.proofs.Prelude.{◌≡◌, ◌≢◌, ℕ, zero, suc, ◌<◌, ◌≤◌, Bool, true, false, nat_lt, if◌then◌else◌, eqb, List, [], ◌∷◌, ◌++◌, length, map, get_or, take, drop, refl, ap, sym, subst, ◌∙◌, inl, inr, arith, Contains, cond, ◌&&◌, cases_eq, eq-eqb, ne_eqb, map-append, All-nil, Contains-append_left, Contains-append_right, Contains-push, All-cons, All-head, All-tail, All-map, All-weaker, All-permutation, IsPermutation-map, IsPermutation-append_left, sum_by-IsPermutation, All, IsPermutation, rank, TaskId, Priority, JobView, raised, Waiting, ComesFirst, ReadyJob, level_at, priority_of, times, AreCounted, Comes, job_of, task_in, task_of}
use Rattle.std.proofs.lemmas.Grind.{common_steps}
use Rattle.std.proofs.lemmas.List.Sums.{sum_by-cons, sum_by-append, sum_by_push}

pub times_perm : (t : TaskId) (xs ys : List TaskId) → IsPermutation xs ys → times t ys ≡ times t xs
times_perm t xs ys perm = sum_by-IsPermutation _ xs ys perm

-- a task that has a job stands among the tasks
pub stands : (t : TaskId) (ts : List TaskId) → 0 < times t ts → Contains ts t
stands t [] lt = absurd (omega (arith, lt))
stands t (x ∷ xs) lt = elim (cases_eq x.0 t.0) [
  | inl e ↦ subst (λ (y : TaskId). Contains (x ∷ xs) y) (ap (λ (n : ℕ). record { 0 = n }) e) (Contains-append_left (x ∷ []) xs x (Contains-push [] x))
  | inr ne ↦
      let none : cond {A = ℕ} (eqb x.0 t.0) 1 0 ≡ 0 = ap (λ (b : Bool). cond {A = ℕ} b 1 0) (ne_eqb x.0 t.0 ne) in
      let all = sum_by-cons (λ (y : TaskId). cond (eqb y.0 t.0) 1 0) x xs in
      Contains-append_right (x ∷ []) xs t (stands t xs (omega (arith, lt, none, all)))
]

-- the priority of a greater level is no lower
pub greater : (l l' : ℕ) → l < l' → (if nat_lt (rank (priority_of l)) (rank (priority_of l')) then priority_of l' else priority_of l) ≡ priority_of l'
greater l l' lt = grind (arith, common_steps)

module _ {B : Type 0} where
  -- one job more in front
  pub counted_add : (levels : List ℕ) (jobs new : List (Waiting B)) (w : Waiting B) → AreCounted levels jobs → w.priority ≡ priority_of (level_at levels w.job.task) → IsPermutation (w ∷ jobs) new → AreCounted levels new
  counted_add levels jobs new w are is perm =
      let P : Waiting B → Type 0 = λ x. x.priority ≡ priority_of (level_at levels x.job.task) in
      All-permutation P (w ∷ jobs) new perm (All-cons P w jobs is are)

  pub counted_take : (levels : List ℕ) (old new : List (Waiting B)) (w : Waiting B) → AreCounted levels old → IsPermutation old (w ∷ new) → AreCounted levels new × (w.priority ≡ priority_of (level_at levels w.job.task))
  counted_take levels old new w are perm =
      let P : Waiting B → Type 0 = λ x. x.priority ≡ priority_of (level_at levels x.job.task) in
      let all = All-permutation P old (w ∷ new) perm are in
      (All-tail P w new all, All-head P w new all)

  pub tasks_add : (jobs new : List (Waiting B)) (w : Waiting B) (bs ts ts' : List TaskId) → ((t : TaskId) → times t ts ≡ times t (map task_of jobs ++ bs)) → IsPermutation (w.job.task ∷ ts) ts' → IsPermutation (w ∷ jobs) new
      → (t : TaskId) → times t ts' ≡ times t (map task_of new ++ bs)
  tasks_add jobs new w bs ts ts' are added perm t =
      let f : TaskId → ℕ = λ (y : TaskId). cond (eqb y.0 t.0) 1 0 in
      let one = times_perm t (w.job.task ∷ ts) ts' added in
      let two = sum_by-cons f w.job.task ts in
      let three = are t in
      let four = sum_by-cons f w.job.task (map task_of jobs ++ bs) in
      let five = times_perm t (map task_of (w ∷ jobs) ++ bs) (map task_of new ++ bs) (IsPermutation-append_left bs (map task_of (w ∷ jobs)) (map task_of new) (IsPermutation-map task_of (w ∷ jobs) new perm)) in
      omega (arith, one, two, three, four, five)

  pub tasks_take : (old new : List (Waiting B)) (w : Waiting B) (bs ts ts' : List TaskId) → ((t : TaskId) → times t ts ≡ times t (map task_of old ++ bs)) → IsPermutation ts (w.job.task ∷ ts') → IsPermutation old (w ∷ new)
      → (t : TaskId) → times t ts' ≡ times t (map task_of new ++ bs)
  tasks_take old new w bs ts ts' are removed perm t =
      let f : TaskId → ℕ = λ (y : TaskId). cond (eqb y.0 t.0) 1 0 in
      let one = times_perm t ts (w.job.task ∷ ts') removed in
      let two = sum_by-cons f w.job.task ts' in
      let three = are t in
      let four = sum_by-cons f w.job.task (map task_of new ++ bs) in
      let five = times_perm t (map task_of old ++ bs) (map task_of (w ∷ new) ++ bs) (IsPermutation-append_left bs (map task_of old) (map task_of (w ∷ new)) (IsPermutation-map task_of old (w ∷ new) perm)) in
      omega (arith, one, two, three, four, five)

  -- one job more behind
  pub tasks_behind : (jobs : List (Waiting B)) (behind : List (JobView B)) (j : JobView B) (ts ts' : List TaskId) → ((t : TaskId) → times t ts ≡ times t (map task_of jobs ++ map task_in behind)) → IsPermutation (j.task ∷ ts) ts'
      → (t : TaskId) → times t ts' ≡ times t (map task_of jobs ++ map task_in (behind ++ j ∷ []))
  tasks_behind jobs behind j ts ts' are added t =
      let f : TaskId → ℕ = λ (y : TaskId). cond (eqb y.0 t.0) 1 0 in
      let one = times_perm t (j.task ∷ ts) ts' added in
      let two = sum_by-cons f j.task ts in
      let three = are t in
      let four = sum_by-append f (map task_of jobs) (map task_in behind) in
      let five = sum_by-append f (map task_of jobs) (map task_in behind ++ j.task ∷ []) in
      let six = sum_by_push f (map task_in behind) j.task in
      let seven : times t (map task_of jobs ++ map task_in (behind ++ j ∷ [])) ≡ times t (map task_of jobs ++ (map task_in behind ++ j.task ∷ [])) =
      ap (λ (xs : List TaskId). times t (map task_of jobs ++ xs)) (map-append task_in behind (j ∷ [])) in
      omega (arith, one, two, three, four, five, six, seven)

  -- one that has a job in front, say the one that is taken
  pub stands_taken : (old new : List (Waiting B)) (w : Waiting B) (bs ts : List TaskId) → ((t : TaskId) → times t ts ≡ times t (map task_of old ++ bs)) → IsPermutation old (w ∷ new) → Contains ts w.job.task
  stands_taken old new w bs ts are perm =
      let t = w.job.task in
      let f : TaskId → ℕ = λ (y : TaskId). cond (eqb y.0 t.0) 1 0 in
      let one = are t in
      let two = sum_by-cons f t (map task_of new ++ bs) in
      let three = times_perm t (map task_of old ++ bs) (map task_of (w ∷ new) ++ bs) (IsPermutation-append_left bs (map task_of old) (map task_of (w ∷ new)) (IsPermutation-map task_of old (w ∷ new) perm)) in
      let four : cond {A = ℕ} (eqb t.0 t.0) 1 0 ≡ 1 = ap (λ (b : Bool). cond {A = ℕ} b 1 0) (eq-eqb t.0 t.0 refl) in
      stands t ts (omega (arith, one, two, three, four))

  -- the tasks of jobs, seen with the numbers of their arrival
  pub tasks_seen : (jobs : List (Waiting B)) → map task_of jobs ≡ map (λ (x : ReadyJob B). x.job.task) (map job_of jobs)
  tasks_seen [] = refl
  tasks_seen (w ∷ jobs) = ap (λ (ts : List TaskId). w.job.task ∷ ts) (tasks_seen jobs)

  -- a job is counted anew, and only its priority changes
  pub raised_seen : (task : TaskId) (p : Priority) (jobs : List (Waiting B)) → map job_of (map (raised task p) jobs) ≡ map job_of jobs
  raised_seen task p [] = refl
  raised_seen task p (w ∷ jobs) = seen (eqb w.job.task.0 task.0 && nat_lt (rank w.priority) (rank p)) refl (raised_seen task p jobs)
    where
      seen : (b : Bool) → (eqb w.job.task.0 task.0 && nat_lt (rank w.priority) (rank p)) ≡ b → map job_of (map (raised task p) jobs) ≡ map job_of jobs → map job_of (map (raised task p) (w ∷ jobs)) ≡ map job_of (w ∷ jobs)
      seen true is rest = rw is (ap (λ (xs : List (ReadyJob B)). job_of w ∷ xs) rest)
      seen false is rest = rw is (ap (λ (xs : List (ReadyJob B)). job_of w ∷ xs) rest)

  pub raised_tasks : (task : TaskId) (p : Priority) (jobs : List (Waiting B)) → map task_of (map (raised task p) jobs) ≡ map task_of jobs
  raised_tasks task p jobs = tasks_seen (map (raised task p) jobs) ∙ ap (λ (xs : List (ReadyJob B)). map (λ x. x.job.task) xs) (raised_seen task p jobs) ∙ sym (tasks_seen jobs)

  pub all_unmap : {Y : Type 0} (P : Y → Type 0) (f : Waiting B → Y) (ys : List (Waiting B)) → All P (map f ys) → All (λ y. P (f y)) ys
  all_unmap P f [] all = All-nil (λ y. P (f y))
  all_unmap P f (y ∷ ys) all = All-cons (λ z. P (f z)) y ys (All-head P (f y) (map f ys) all) (all_unmap P f ys (All-tail P (f y) (map f ys) all))

  raised_priority : (task : TaskId) (p : Priority) (w : Waiting B) → (raised task p w).priority ≡ (if eqb w.job.task.0 task.0 && nat_lt (rank w.priority) (rank p) then p else w.priority)
  raised_priority task p w = by (eqb w.job.task.0 task.0 && nat_lt (rank w.priority) (rank p)) refl
    where
      by : (b : Bool) → (eqb w.job.task.0 task.0 && nat_lt (rank w.priority) (rank p)) ≡ b → (raised task p w).priority ≡ (if eqb w.job.task.0 task.0 && nat_lt (rank w.priority) (rank p) then p else w.priority)
      by true is = rw is refl
      by false is = rw is refl

  raised_job : (task : TaskId) (p : Priority) (w : Waiting B) → (raised task p w).job ≡ w.job
  raised_job task p w = by (eqb w.job.task.0 task.0 && nat_lt (rank w.priority) (rank p)) refl
    where
      by : (b : Bool) → (eqb w.job.task.0 task.0 && nat_lt (rank w.priority) (rank p)) ≡ b → (raised task p w).job ≡ w.job
      by true is = rw is refl
      by false is = rw is refl

  counted_one : (levels levels' : List ℕ) (task : TaskId) (l : ℕ) (w : Waiting B) → level_at levels task < l → level_at levels' task ≡ l → ((t : TaskId) → t.0 ≢ task.0 → level_at levels' t ≡ level_at levels t)
      → w.priority ≡ priority_of (level_at levels w.job.task) → (raised task (priority_of l) w).priority ≡ priority_of (level_at levels' w.job.task)
  counted_one levels levels' task l w lt at others is = elim (cases_eq w.job.task.0 task.0) [
    | inl e ↦
        let same : w.job.task ≡ task = ap (λ (n : ℕ). record { 0 = n }) e in
        let here : level_at levels' w.job.task ≡ l = ap (level_at levels') same ∙ at in
        let was : w.priority ≡ priority_of (level_at levels task) = is ∙ ap (λ (t : TaskId). priority_of (level_at levels t)) same in
        raised_priority task (priority_of l) w
        ∙ ap (λ (b : Bool). if b && nat_lt (rank w.priority) (rank (priority_of l)) then priority_of l else w.priority) (eq-eqb w.job.task.0 task.0 e)
        ∙ ap (λ (p : Priority). if nat_lt (rank p) (rank (priority_of l)) then priority_of l else p) was
        ∙ greater (level_at levels task) l lt
        ∙ ap priority_of (sym here)
    | inr ne ↦
        raised_priority task (priority_of l) w
        ∙ ap (λ (b : Bool). if b && nat_lt (rank w.priority) (rank (priority_of l)) then priority_of l else w.priority) (ne_eqb w.job.task.0 task.0 ne)
        ∙ is
        ∙ ap priority_of (sym (others w.job.task ne))
  ]

  -- where the level of one task becomes greater, each job counts at the level of its task again
  pub counted_raise : (levels levels' : List ℕ) (task : TaskId) (l : ℕ) (jobs new : List (Waiting B)) → level_at levels task < l → level_at levels' task ≡ l → ((t : TaskId) → t.0 ≢ task.0 → level_at levels' t ≡ level_at levels t)
      → AreCounted levels jobs → IsPermutation (map (raised task (priority_of l)) jobs) new → AreCounted levels' new
  counted_raise levels levels' task l jobs new lt at others are perm =
      let P : Waiting B → Type 0 = λ x. x.priority ≡ priority_of (level_at levels' x.job.task) in
      All-permutation P (map (raised task (priority_of l)) jobs) new perm
      (All-map P (raised task (priority_of l)) jobs
      (All-weaker (λ x. x.priority ≡ priority_of (level_at levels x.job.task)) (λ x. P (raised task (priority_of l) x))
      (λ w is. counted_one levels levels' task l w lt at others is ∙ ap (λ (j : JobView B). priority_of (level_at levels' j.task)) (sym (raised_job task (priority_of l) w))) jobs are))

  -- the queue's order, seen with the numbers of arrival
  pub seen_perm : (old new : List (Waiting B)) → IsPermutation old new → IsPermutation (map job_of old) (map job_of new)
  seen_perm old new perm = IsPermutation-map job_of old new perm

  -- what a queue picks comes first by the levels of tasks
  comes_first : (b : Bool) (levels : List ℕ) (w y : Waiting B) → w.priority ≡ priority_of (level_at levels w.job.task) → y.priority ≡ priority_of (level_at levels y.job.task) → Comes b w y → ComesFirst b levels (job_of w) (job_of y)
  comes_first true levels w y p q h = h
  comes_first false levels w y p q h =
      subst (λ (a : Priority). (rank a ≤ rank (priority_of (level_at levels w.job.task))) × (rank a ≡ rank (priority_of (level_at levels w.job.task)) → w.arrival ≤ y.arrival)) q
      (subst (λ (a : Priority). (rank y.priority ≤ rank a) × (rank y.priority ≡ rank a → w.arrival ≤ y.arrival)) p h)

  pub all_come : (b : Bool) (levels : List ℕ) (w : Waiting B) (jobs : List (Waiting B)) → w.priority ≡ priority_of (level_at levels w.job.task) → AreCounted levels jobs → All (Comes b w) jobs → All (ComesFirst b levels (job_of w)) (map job_of jobs)
  all_come b levels w jobs p are h = All-map (ComesFirst b levels (job_of w)) job_of jobs (λ k d lt. comes_first b levels w (get_or jobs k d) p (are k d lt) (h k d lt))

  -- jobs, seen with the numbers of their arrival
  pub jobs_seen : (jobs : List (Waiting B)) → map (λ (w : Waiting B). w.job) jobs ≡ map (λ (x : ReadyJob B). x.job) (map job_of jobs)
  jobs_seen [] = refl
  jobs_seen (w ∷ jobs) = ap (λ (js : List (JobView B)). w.job ∷ js) (jobs_seen jobs)

  -- a job from behind comes to the front
  pub tasks_forward : (jobs new : List (Waiting B)) (w : Waiting B) (behind less : List (JobView B)) (ts : List TaskId) → ((t : TaskId) → times t ts ≡ times t (map task_of jobs ++ map task_in behind))
      → IsPermutation behind (w.job ∷ less) → IsPermutation (w ∷ jobs) new → (t : TaskId) → times t ts ≡ times t (map task_of new ++ map task_in less)
  tasks_forward jobs new w behind less ts are removed added t =
      let f : TaskId → ℕ = λ (y : TaskId). cond (eqb y.0 t.0) 1 0 in
      let one = are t in
      let two = sum_by-append f (map task_of jobs) (map task_in behind) in
      let three = sum_by-append f (map task_of new) (map task_in less) in
      let four = times_perm t (map task_in behind) (map task_in (w.job ∷ less)) (IsPermutation-map task_in behind (w.job ∷ less) removed) in
      let five = sum_by-cons f w.job.task (map task_in less) in
      let six = times_perm t (map task_of (w ∷ jobs)) (map task_of new) (IsPermutation-map task_of (w ∷ jobs) new added) in
      let seven = sum_by-cons f w.job.task (map task_of jobs) in
      omega (arith, one, two, three, four, five, six, seven)

-- a list that is parted at an element
pub parted : {X : Type 0} (xs : List X) (i : ℕ) (x : X) → i < length xs → x ≡ get_or xs i x → xs ≡ take i xs ++ x ∷ drop (suc i) xs
parted [] i x lt is = absurd (omega (arith, lt))
parted (y ∷ ys) zero x lt is = ap (λ (z : _). z ∷ ys) (sym is)
parted (y ∷ ys) (suc i) x lt is = ap (λ (zs : List _). y ∷ zs) (parted ys i x (omega (arith, lt)) is)
