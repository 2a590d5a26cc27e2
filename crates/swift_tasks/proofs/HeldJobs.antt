-- The jobs of the tasks that wait, taken from the last on.
use Rattle.swift_tasks.proofs.Prelude.{◌≡◌, ℕ, ◌+◌, List, [], ◌∷◌, ◌++◌, length, refl, sym, ◌∙◌, ap, arith, append_assoc, subst, append-nil, length-map, map-append, reverse-append, JobView, BodyView, WaitingTask, held_view, held_views, Option, Some, None, map, reverse, AllByRecursion, Go, JobFacts, WaitingTaskView, jobs_held, job_facts}

pub jobs_held-append : (t : ℕ) (xs ys : List (Option WaitingTaskView)) → jobs_held t (xs ++ ys) ≡ jobs_held t xs ++ jobs_held (t + length xs) ys
jobs_held-append t [] ys = ap (λ k. jobs_held k ys) (omega arith)
jobs_held-append t (None ∷ xs) ys = jobs_held-append (t + 1) xs ys ∙ ap (λ k. jobs_held (t + 1) xs ++ jobs_held k ys) (omega arith)
jobs_held-append t (Some h ∷ xs) ys =
    ap (λ js. record { task = t; number = h.number; resume = Go; frames = h.frames } ∷ js) (jobs_held-append (t + 1) xs ys ∙ ap (λ k. jobs_held (t + 1) xs ++ jobs_held k ys) (omega arith))

pub all-append : {X : Type 0} (P : X → Type 0) (xs ys : List X) → AllByRecursion P xs → AllByRecursion P ys → AllByRecursion P (xs ++ ys)
all-append P [] ys a b = b
all-append P (x ∷ xs) ys a b = (a.0, all-append P xs ys a.1 b)

pub all-front : {X : Type 0} (P : X → Type 0) (xs ys : List X) → AllByRecursion P (xs ++ ys) → AllByRecursion P xs
all-front P [] ys a = tt
all-front P (x ∷ xs) ys a = (a.0, all-front P xs ys a.1)

pub all-back : {X : Type 0} (P : X → Type 0) (xs ys : List X) → AllByRecursion P (xs ++ ys) → AllByRecursion P ys
all-back P [] ys a = a
all-back P (x ∷ xs) ys a = all-back P xs ys a.1

-- the last of the tasks that are left waits
pub job_step : (front held : List (Option WaitingTask)) (h : WaitingTask) (jobs jobs' : List (JobView BodyView)) (j : JobView BodyView) (total : List JobFacts)
    → held ≡ front ++ Some h ∷ [] → jobs' ≡ jobs ++ j ∷ [] → job_facts j ≡ record { task = length front; number = h.number; resume = Go; frames = h.body.task }
    → jobs_held 0 (held_views held) ++ reverse (map job_facts jobs) ≡ total → jobs_held 0 (held_views front) ++ reverse (map job_facts jobs') ≡ total
job_step front held h jobs jobs' j total is more view all =
    let last : List (Option WaitingTaskView) = held_view (Some h) ∷ [] in
    let one : JobFacts = record { task = length front; number = h.number; resume = Go; frames = h.body.task } in
    let back : reverse (map job_facts jobs') ≡ one ∷ reverse (map job_facts jobs) =
    ap (λ (js : List (JobView BodyView)). reverse (map job_facts js)) more ∙ ap reverse (map-append job_facts jobs (j ∷ [])) ∙ reverse-append (map job_facts jobs) (job_facts j ∷ []) ∙ ap (λ (v : JobFacts). v ∷ reverse (map job_facts jobs)) view in
    let long : 0 + length (held_views front) ≡ length front = omega (arith, length-map front held_view) in
    let whole : jobs_held 0 (held_views held) ≡ jobs_held 0 (held_views front) ++ one ∷ [] =
    ap (λ (hs : List (Option WaitingTask)). jobs_held 0 (held_views hs)) is ∙ ap (jobs_held 0) (map-append held_view front (Some h ∷ [])) ∙ jobs_held-append 0 (held_views front) last ∙ ap (λ (k : ℕ). jobs_held 0 (held_views front) ++ jobs_held k last) long in
    ap (λ (js : List JobFacts). jobs_held 0 (held_views front) ++ js) back
    ∙ sym (append_assoc (jobs_held 0 (held_views front)) (one ∷ []) (reverse (map job_facts jobs)))
    ∙ ap (λ (js : List JobFacts). js ++ reverse (map job_facts jobs)) (sym whole)
    ∙ all

-- the last of the tasks that are left does not wait
pub none_step : (front held : List (Option WaitingTask)) (back total : List JobFacts)
    → held ≡ front ++ None ∷ [] → jobs_held 0 (held_views held) ++ back ≡ total → jobs_held 0 (held_views front) ++ back ≡ total
none_step front held back total is all =
    let last : List (Option WaitingTaskView) = None ∷ [] in
    let whole : jobs_held 0 (held_views held) ≡ jobs_held 0 (held_views front) =
    ap (λ (hs : List (Option WaitingTask)). jobs_held 0 (held_views hs)) is ∙ ap (jobs_held 0) (map-append held_view front (None ∷ [])) ∙ jobs_held-append 0 (held_views front) last ∙ append-nil (jobs_held 0 (held_views front)) in
    ap (λ (js : List JobFacts). js ++ back) (sym whole) ∙ all

map_reverse : {X Y : Type 0} (f : X → Y) (xs : List X) → map f (reverse xs) ≡ reverse (map f xs)
map_reverse f [] = refl
map_reverse f (x ∷ xs) = ap (map f) (reverse-append (x ∷ []) xs) ∙ map-append f (reverse xs) (x ∷ []) ∙ ap (λ ys. ys ++ f x ∷ []) (map_reverse f xs) ∙ sym (reverse-append (f x ∷ []) (map f xs))

-- no task is left
pub job_end : (held : List (Option WaitingTask)) (jobs jobs' : List (JobView BodyView)) (total : List JobFacts)
    → length held ≡ 0 → jobs' ≡ reverse jobs → jobs_held 0 (held_views held) ++ reverse (map job_facts jobs) ≡ total → map job_facts jobs' ≡ total
job_end [] jobs jobs' total none turned all = ap (map job_facts) turned ∙ map_reverse job_facts jobs ∙ all
job_end (h ∷ hs) jobs jobs' total none turned all = absurd (omega (arith, none))

pub all-reverse : {X : Type 0} (P : X → Type 0) (xs : List X) → AllByRecursion P xs → AllByRecursion P (reverse xs)
all-reverse P [] a = tt
all-reverse P (x ∷ xs) a = subst (AllByRecursion P) (sym (reverse-append (x ∷ []) xs)) (all-append P (reverse xs) (x ∷ []) (all-reverse P xs a.1) (a.0, tt))
