-- What the code has made of a turn is what the end of the turn is defined to be.
use Rattle.swift_tasks.proofs.Prelude.{◌≡◌, ℕ, zero, suc, ◌+◌, ◌-◌, ◌≤◌, List, [], ◌∷◌, ◌++◌, length, take, drop, replicate, refl, ◌∙◌, ap, arith, length-append, Option, None, map, length-map, Resume, ScriptView, root_count, EffectView, ExitView, JobView, Step, BodyView, TaskView, Event, Apply, life_of, waiters_of, waiters_of-push_none, begun_priority, JobFacts, WaitingTaskView, AfterTurn, followed, jobs_made, exit_resume, task, WaitingTask, CanLeave, StepFits, done_log, written_log, followed_from, held_views, job_facts}
use Rattle.swift_tasks.proofs.FinishedTurn.{both_of, drop_map, drop_front}
use Rattle.swift_tasks.proofs.Grows.{effects_grow}
use Rattle.swift_tasks.proofs.TurnEndKept.{exit_left}

-- the jobs of the tasks that a turn makes
abbrev pub made_by : ScriptView → ℕ → ℕ → List Event → List EffectView → List JobFacts
made_by script t n log es = jobs_made script t (begun_priority (life_of t log).stage) (log ++ Apply (task t) n ∷ []) es

-- what follows from it
abbrev pub follows_turn : ScriptView → ℕ → ℕ → List Event → List (Option WaitingTaskView) → List EffectView → ExitView → TaskView → Step → AfterTurn
follows_turn script t n log held es exit frames step =
    followed t (n + 1) frames (exit_resume t (done_log (root_count script) t n log es) exit step) step (written_log (root_count script) t n log es exit step) (both_of (held ++ replicate (length (made_by script t n log es)) None) (made_by script t n log es))

pub made_since : (first : ℕ) (jobs : List (JobView BodyView)) (old made : List JobFacts) → map job_facts jobs ≡ old ++ made → length old ≡ first → map job_facts (drop first jobs) ≡ made
made_since first jobs old made is long = drop_map job_facts first jobs ∙ ap (drop first) is ∙ drop_front first old made long

pub few_since : (first : ℕ) (jobs : List (JobView BodyView)) (old made : List JobFacts) → map job_facts jobs ≡ old ++ made → length old ≡ first → length jobs ≡ first + length made
few_since first jobs old made is long =
    let a = ap length is in
    let b = length-append old made in
    let d = length-map jobs job_facts in
    omega (arith, a, b, d, long)

take_map : {A B : Type 0} (f : A → B) (n : ℕ) (xs : List A) → map f (take n xs) ≡ take n (map f xs)
take_map f zero [] = refl
take_map f zero (x ∷ xs) = refl
take_map f (suc n) [] = refl
take_map f (suc n) (x ∷ xs) = ap (λ ys. f x ∷ ys) (take_map f n xs)

take_front : {A : Type 0} (n : ℕ) (xs ys : List A) → length xs ≡ n → take n (xs ++ ys) ≡ xs
take_front zero [] [] is = refl
take_front zero [] (y ∷ ys) is = refl
take_front zero (x ∷ xs) ys is = absurd (omega (arith, is))
take_front (suc n) [] ys is = absurd (omega (arith, is))
take_front (suc n) (x ∷ xs) ys is = ap (λ zs. x ∷ zs) (take_front n xs ys (omega (arith, is)))

pub stood_before : (first : ℕ) (jobs : List (JobView BodyView)) (old made : List JobFacts) → map job_facts jobs ≡ old ++ made → length old ≡ first → map job_facts (take first jobs) ≡ old
stood_before first jobs old made is long = take_map job_facts first jobs ∙ ap (take first) is ∙ take_front first old made long

pub turn_is : (script : ScriptView) (roots t n : ℕ) (log log' : List Event) (held : List (Option WaitingTask)) (es : List EffectView) (exit : ExitView) (frames : TaskView) (step : Step) (first : ℕ) (jobs : List (JobView BodyView)) (old : List JobFacts) (resume : Option Resume)
    → roots ≡ root_count script → log' ≡ written_log roots t n log es exit step → resume ≡ exit_resume t (done_log roots t n log es) exit step → map job_facts jobs ≡ old ++ made_by script t n log es → length old ≡ first
    → followed_from first held jobs t (n + 1) frames resume step log' ≡ follows_turn script t n log (held_views held) es exit frames step
turn_is script roots t n log log' held es exit frames step first jobs old resume rs ls next js long =
    let made : List JobFacts = made_by script t n log es in
    let count : length jobs - first ≡ length made = (let few = few_since first jobs old made js long in omega (arith, few)) in
    ap (λ (k : ℕ). followed t (n + 1) frames resume step log' (both_of (held_views held ++ replicate k None) (map job_facts (drop first jobs)))) count
    ∙ ap (λ (ms : List JobFacts). followed t (n + 1) frames resume step log' (both_of (held_views held ++ replicate (length made) None) ms)) (made_since first jobs old made js long)
    ∙ ap (λ (r : Option Resume). followed t (n + 1) frames r step log' (both_of (held_views held ++ replicate (length made) None) made)) (next ∙ ap (λ (r : ℕ). exit_resume t (done_log r t n log es) exit step) rs)
    ∙ ap (λ (l : List Event). followed t (n + 1) frames (exit_resume t (done_log (root_count script) t n log es) exit step) step l (both_of (held_views held ++ replicate (length made) None) made)) (ls ∙ ap (λ (r : ℕ). written_log r t n log es exit step) rs)

-- one task at most waits for a task by the exit of its own turn
pub written_waiters : (roots t n : ℕ) (log : List Event) (es : List EffectView) (exit : ExitView) (step : Step) → CanLeave t (done_log roots t n log es) exit → StepFits exit step → length (waiters_of t (written_log roots t n log es exit step)) ≤ length (waiters_of t log) + 1
written_waiters roots t n log es exit step can fits =
    let few = (exit_left roots t (done_log roots t n log es) exit step can fits).waiters in
    let same = ap length ((effects_grow roots t (begun_priority (life_of t log).stage) (log ++ Apply (task t) n ∷ []) es).waiters t) in
    let begun = ap length (waiters_of-push_none t log (Apply (task t) n) refl) in
    omega (arith, few, same, begun)
