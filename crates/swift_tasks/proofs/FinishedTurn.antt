-- The jobs that a turn has made, behind those that stood before.
use Rattle.swift_tasks.proofs.Prelude.{◌≡◌, ℕ, zero, suc, ◌-◌, ◌≤◌, List, [], ◌∷◌, ◌++◌, length, take, drop, replicate, refl, ◌∙◌, ap, arith, length-append, Option, None, map, AllByRecursion, map-append, length-map, Resume, ScriptView, JobView, Step, BodyView, TaskView, Event, JobFacts, WaitingTaskView, AfterTurn, followed, WaitingTask, follows_of, followed_from, FitsScript, held_view, held_views, job_facts}
use Rattle.swift_tasks.proofs.WakesKept.{behind, followed_behind}

abbrev pub both_of : List (Option WaitingTaskView) → List JobFacts → AfterTurn
both_of held jobs = record { held = held; jobs = jobs }

none_views : (k : ℕ) → held_views (replicate k None) ≡ replicate k None
none_views zero = refl
none_views (suc k) = ap (λ (hs : List (Option WaitingTaskView)). None ∷ hs) (none_views k)

pub grown_views : (held held' : List (Option WaitingTask)) (k : ℕ) → held' ≡ held ++ replicate k None → held_views held' ≡ held_views held ++ replicate k None
grown_views held held' k is = ap held_views is ∙ map-append held_view held (replicate k None) ∙ ap (λ (hs : List (Option WaitingTaskView)). held_views held ++ hs) (none_views k)

split_map : {A B : Type 0} (f : A → B) (n : ℕ) (xs : List A) → map f xs ≡ map f (take n xs) ++ map f (drop n xs)
split_map f zero [] = refl
split_map f zero (x ∷ xs) = refl
split_map f (suc n) [] = refl
split_map f (suc n) (x ∷ xs) = ap (λ ys. f x ∷ ys) (split_map f n xs)

pub drop_map : {A B : Type 0} (f : A → B) (n : ℕ) (xs : List A) → map f (drop n xs) ≡ drop n (map f xs)
drop_map f zero [] = refl
drop_map f zero (x ∷ xs) = refl
drop_map f (suc n) [] = refl
drop_map f (suc n) (x ∷ xs) = drop_map f n xs

pub drop_front : {A : Type 0} (n : ℕ) (xs ys : List A) → length xs ≡ n → drop n (xs ++ ys) ≡ ys
drop_front zero [] ys is = whole ys
  where
    whole : {A : Type 0} (ys : List A) → drop zero ys ≡ ys
    whole [] = refl
    whole (y ∷ ys) = refl
drop_front zero (x ∷ xs) ys is = absurd (omega (arith, is))
drop_front (suc n) [] ys is = absurd (omega (arith, is))
drop_front (suc n) (x ∷ xs) ys is = drop_front n xs ys (omega (arith, is))

length_take : {A : Type 0} (n : ℕ) (xs : List A) → n ≤ length xs → length (take n xs) ≡ n
length_take zero [] le = refl
length_take zero (x ∷ xs) le = refl
length_take (suc n) [] le = absurd (omega (arith, le))
length_take (suc n) (x ∷ xs) le = (let is = length_take n xs (omega (arith, le)) in omega (arith, is))

-- what follows, behind the jobs that stood before
pub finished : (first : ℕ) (held grown held' : List (Option WaitingTask)) (jobs jobs' : List (JobView BodyView)) (t n : ℕ) (frames : TaskView) (resume : Option Resume) (step : Step) (log : List Event)
    → grown ≡ held ++ replicate (length jobs - first) None → follows_of held' jobs' ≡ followed t n frames resume step log (follows_of grown jobs)
    → follows_of held' jobs' ≡ behind (map job_facts (take first jobs)) (followed_from first held jobs t n frames resume step log)
finished first held grown held' jobs jobs' t n frames resume step log more is =
    let before : List JobFacts = map job_facts (take first jobs) in
    let start : follows_of grown jobs ≡ behind before (both_of (held_views held ++ replicate (length jobs - first) None) (map job_facts (drop first jobs))) =
    ap (λ (hs : List (Option WaitingTaskView)). both_of hs (map job_facts jobs)) (grown_views held grown (length jobs - first) more) ∙ ap (both_of (held_views held ++ replicate (length jobs - first) None)) (split_map job_facts first jobs) in
    is ∙ ap (followed t n frames resume step log) start ∙ followed_behind before t n frames resume step log (both_of (held_views held ++ replicate (length jobs - first) None) (map job_facts (drop first jobs)))

-- and those that were made since
pub finished_jobs : (first : ℕ) (jobs jobs' : List (JobView BodyView)) (made : List JobFacts) → first ≤ length jobs → map job_facts jobs' ≡ map job_facts (take first jobs) ++ made → map job_facts (drop first jobs') ≡ made
finished_jobs first jobs jobs' made le is =
    drop_map job_facts first jobs' ∙ ap (drop first) is ∙ drop_front first (map job_facts (take first jobs)) made (length-map (take first jobs) job_facts ∙ length_take first jobs le)

pub finished_there : (first : ℕ) (jobs jobs' : List (JobView BodyView)) (made : List JobFacts) → first ≤ length jobs → map job_facts jobs' ≡ map job_facts (take first jobs) ++ made → first ≤ length jobs'
finished_there first jobs jobs' made le is =
    let long = ap length is in
    let sum = length-append (map job_facts (take first jobs)) made in
    let a = length-map jobs' job_facts in
    let b = length-map (take first jobs) job_facts in
    let d = length_take first jobs le in
    omega (arith, long, sum, a, b, d)

pub all_none : (script : ScriptView) (k : ℕ) → AllByRecursion (FitsScript script) (replicate k None)
all_none script zero = tt
all_none script (suc k) = (tt, all_none script k)
