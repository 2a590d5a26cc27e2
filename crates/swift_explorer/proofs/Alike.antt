-- Histories of one key lead alike, and outcomes of one key are one but for their schedules.
use Rattle.swift_explorer.proofs.Prelude.{◌≡◌, ℕ, zero, suc, ◌+◌, ◌≤◌, ℤ, Bool, false, List, [], ◌∷◌, ◌++◌, length, map, refl, sym, ◌∙◌, ap, ap₂, subst, arith, inl, inr, Option, Some, None, slice_get, slice_index_or, option_map, cases_lt, length-map, rows_of, Resume, ScriptView, executor_count, root_count, FrameView, TaskView, tasks_of, RecordView, Block, checkpoint_at, fields_of, records_of, JobFacts, WaitingTaskView, starts, jobs_held, Digest, digest_of, LeadAlike, tasks_of_is, option_numbers, list_numbers, number_numbers, flag_numbers, resume_numbers, origin_numbers, ending_numbers, bindings_numbers, fields_numbers, frame_numbers, digest_numbers, NextTurn, SearchedHistory, RunOutcome, given_at, given_view, IsHistory, has_records, rows_at, IsKeyFor, IsNumbered, ReadyView, body_numbers, end_numbers, frames_left, job_left, job_numbers, outcome_bytes, ready_numbers, ready_view, rest_numbers, rest_of, task_left, with_counts}
use Rattle.swift_types.specs.declared.outcome.Resume.TheVariants.{Go}
use Rattle.swift_history.specs.Replay.{replay}
use Rattle.swift_laws.proofs.HistoriesApplied.{there}
use Rattle.swift_digest.specs.Plans.{FramePlan, JobPlan, TaskPlan, WaitingTaskPlan, caller_plan, frame_plans, held_plans, job_plan, plan_of, task_plan}
use Rattle.swift_explorer.proofs.Bytes.{bytes_read}
use Rattle.swift_explorer.proofs.Codes.{IsCode, peel, pair_code, option_code, list_code, number_code, flag_code, resume_code, origin_code, ending_code}
use Rattle.swift_explorer.proofs.FrameCodes.{bindings_code, fields_code, frame_code}
use Rattle.swift_explorer.proofs.DigestCodes.{digest_read}

-- tasks, what they go on with, and jobs can be read again

abbrev task_by : List FrameView → List (ℕ × ℤ) → TaskView
task_by f o = record { frames = f; outer = o }

body_code : IsCode body_numbers
body_code = record {
  read = λ a b r s e.
      let frames : List FrameView → List ℤ = list_numbers frame_numbers in
      let one = peel bindings_numbers bindings_code a.outer b.outer (frames a.frames) (frames b.frames) r s e in
      let two = (list_code frame_numbers frame_code).read a.frames b.frames r s one.1 in
      (ap₂ task_by two.0 one.0, two.1);
}

abbrev ready_by : ℕ → Resume → TaskView → ReadyView
ready_by n r f = record { number = n; resume = r; frames = f }

ready_code : IsCode ready_numbers
ready_code = record {
  read = λ a b r s e.
      let one = peel number_numbers number_code a.number b.number (resume_numbers a.resume ++ body_numbers a.frames) (resume_numbers b.resume ++ body_numbers b.frames) r s e in
      let two = peel resume_numbers resume_code a.resume b.resume (body_numbers a.frames) (body_numbers b.frames) r s one.1 in
      let three = body_code.read a.frames b.frames r s two.1 in
      (ap (λ (x : ℕ). ready_by x a.resume a.frames) one.0 ∙ ap₂ (λ (x : Resume) (y : TaskView). ready_by b.number x y) two.0 three.0, three.1);
}

abbrev job_by : ℕ → ReadyView → JobFacts
job_by t v = record { task = t; number = v.number; resume = v.resume; frames = v.frames }

job_code : IsCode job_numbers
job_code = record {
  read = λ a b r s e.
      let x = ready_by a.number a.resume a.frames in
      let y = ready_by b.number b.resume b.frames in
      let one = peel number_numbers number_code a.task b.task (ready_numbers x) (ready_numbers y) r s e in
      let two = ready_code.read x y r s one.1 in
      (ap₂ job_by one.0 two.0, two.1);
}

-- what one list of numbers says of a history
record SameParts (w x : List JobFacts) (u v : List Bool) (f i : List (List (List ℤ))) (g h : List (Option ReadyView)) (r s : List ℤ) : Type 0 where
  waiting : w ≡ x
  used : u ≡ v
  fields : f ≡ i
  ready : g ≡ h
  rest : r ≡ s

rest_read : (w x : List JobFacts) (u v : List Bool) (f i : List (List (List ℤ))) (g h : List (Option ReadyView)) (r s : List ℤ) → rest_numbers w u f g ++ r ≡ rest_numbers x v i h ++ s → SameParts w x u v f i g h r s
rest_read w x u v f i g h r s e =
    let jobs : List JobFacts → List ℤ = list_numbers job_numbers in
    let flags : List Bool → List ℤ = list_numbers flag_numbers in
    let ready : List (Option ReadyView) → List ℤ = list_numbers (option_numbers ready_numbers) in
    let one = peel jobs (list_code job_numbers job_code) w x (flags u ++ (fields_numbers f ++ ready g)) (flags v ++ (fields_numbers i ++ ready h)) r s e in
    let two = peel flags (list_code flag_numbers flag_code) u v (fields_numbers f ++ ready g) (fields_numbers i ++ ready h) r s one.1 in
    let three = peel fields_numbers fields_code f i (ready g) (ready h) r s two.1 in
    let four = (list_code (option_numbers ready_numbers) (option_code ready_numbers ready_code)).read g h r s three.1 in
    record { waiting = one.0; used = two.0; fields = three.0; ready = four.0; rest = four.1 }

-- waiting tasks are known by their jobs and by how many places there are

abbrev held_left : WaitingTaskView → WaitingTaskView
held_left h = record { number = h.number; frames = task_left h.frames }

all_left : (t : ℕ) (hs : List (Option WaitingTaskView)) → map job_left (jobs_held t hs) ≡ jobs_held t (map (option_map held_left) hs)
all_left t [] = refl
all_left t (None ∷ hs) = all_left (t + 1) hs
all_left t (Some h ∷ hs) = ap₂ (λ (j : JobFacts) (js : List JobFacts). j ∷ js) refl (all_left (t + 1) hs)

abbrev held_by : ℕ → TaskView → WaitingTaskView
held_by n f = record { number = n; frames = f }

abbrev held_job : ℕ → WaitingTaskView → JobFacts
held_job t h = record { task = t; number = h.number; resume = Go; frames = h.frames }

same_first : (j k : JobFacts) (js ks : List JobFacts) → j ∷ js ≡ k ∷ ks → (j ≡ k) × (js ≡ ks)
same_first j k js ks e = (cc e, cc e)

first_after : (t : ℕ) (hs : List (Option WaitingTaskView)) (j : JobFacts) (js : List JobFacts) → jobs_held t hs ≡ j ∷ js → t ≤ j.task
first_after t [] j js e = absurd (cc)
first_after t (None ∷ hs) j js e = let later = first_after (t + 1) hs j js e in omega arith
first_after t (Some h ∷ hs) j js e = let same : t ≡ j.task = cc in omega arith

held_read : (t : ℕ) (xs ys : List (Option WaitingTaskView)) → length xs ≡ length ys → jobs_held t xs ≡ jobs_held t ys → xs ≡ ys
held_read t [] [] many e = refl
held_read t [] (y ∷ ys) many e = absurd (omega arith)
held_read t (x ∷ xs) [] many e = absurd (omega arith)
held_read t (None ∷ xs) (None ∷ ys) many e = ap (λ l. None ∷ l) (held_read (t + 1) xs ys (omega arith) e)
held_read t (Some x ∷ xs) (Some y ∷ ys) many e =
    let first = same_first (held_job t x) (held_job t y) (jobs_held (t + 1) xs) (jobs_held (t + 1) ys) e in
    let rest = held_read (t + 1) xs ys (omega arith) first.1 in
    ap₂ (λ (j : JobFacts) (l : List (Option WaitingTaskView)). Some (held_by j.number j.frames) ∷ l) first.0 rest
held_read t (None ∷ xs) (Some y ∷ ys) many e = let low = first_after (t + 1) xs _ _ e in absurd (omega arith)
held_read t (Some x ∷ xs) (None ∷ ys) many e = let low = first_after (t + 1) ys _ _ (sym e) in absurd (omega arith)

-- the frames as they are left have the same plans

module _ (script : ScriptView) where
  callers_left : (p : FrameView) (qs : List FrameView) → map (caller_plan script) (map (with_counts p) qs) ≡ map (caller_plan script) qs
  callers_left p [] = refl
  callers_left p (q ∷ qs) = ap (λ (l : List FramePlan). caller_plan script q ∷ l) (callers_left p qs)

  plans_left : (fs : List FrameView) → frame_plans script (frames_left fs) ≡ frame_plans script fs
  plans_left [] = refl
  plans_left (p ∷ ps) = ap (λ (l : List FramePlan). plan_of script p ∷ l) (callers_left p ps)

  plan_left : (v : TaskView) → task_plan script (task_left v) ≡ task_plan script v
  plan_left v = ap (λ (l : List FramePlan). record { frames = l; outer = v.outer }) (plans_left v.frames)

  held_plans_left : (hs : List (Option WaitingTaskView)) → held_plans script (map (option_map held_left) hs) ≡ held_plans script hs
  held_plans_left [] = refl
  held_plans_left (None ∷ hs) = ap (λ (l : List (Option WaitingTaskPlan)). None ∷ l) (held_plans_left hs)
  held_plans_left (Some h ∷ hs) = ap₂ (λ (p : TaskPlan) (l : List (Option WaitingTaskPlan)). Some (record { number = h.number; plan = p }) ∷ l) (plan_left h.frames) (held_plans_left hs)

  -- a job's plan is that of what the task goes on with
  abbrev plan_by : ℕ → ReadyView → JobPlan
  plan_by t v = record { task = t; number = v.number; resume = v.resume; plan = task_plan script v.frames }

  job_plan_left : (t : ℕ) (o : Option NextTurn) → option_map (job_plan script) (option_map (given_view t) o) ≡ option_map (plan_by t) (option_map ready_view o)
  job_plan_left t None = refl
  job_plan_left t (Some g) = ap (λ (p : TaskPlan). Some (record { task = t; number = g.number; resume = g.resume; plan = p })) (sym (plan_left g.body.task))

at_map : (tasks : List (Option NextTurn)) (t : ℕ) → option_map ready_view (given_at tasks t) ≡ slice_index_or (map (option_map ready_view) tasks) t None
at_map [] t = refl
at_map (g ∷ gs) zero = refl
at_map (g ∷ gs) (suc t) = at_map gs t

no_records : (rs : List RecordView) → has_records rs ≡ false → rs ≡ []
no_records [] e = refl
no_records (r ∷ rs) e = absurd (cc)

-- past the executors no flag is set
past : (used : List Bool) (e : ℕ) → length used ≤ e → slice_index_or used e false ≡ false
past [] e high = refl
past (b ∷ bs) zero high = absurd (omega arith)
past (b ∷ bs) (suc e) high = past bs e (omega arith)

-- two histories with the same numbers have the same parts
record SameFacts (x y : SearchedHistory) : Type 0 where
  digest : digest_of x.steps.book.log ≡ digest_of y.steps.book.log
  waiting : map job_left (jobs_held 0 x.steps.book.held) ≡ map job_left (jobs_held 0 y.steps.book.held)
  used : x.used.items ≡ y.used.items
  fields : rows_at x ≡ rows_at y
  ready : map (option_map ready_view) x.steps.tasks.items ≡ map (option_map ready_view) y.steps.tasks.items

same_facts : (x y : SearchedHistory) (numbers : List ℤ) → IsNumbered x numbers → IsNumbered y numbers → SameFacts x y
same_facts x y numbers nx ny =
    let a = nx.written in
    let b = ny.written in
    let da = digest_of x.steps.book.log in
    let db = digest_of y.steps.book.log in
    let left = digest_numbers a.tasks a.groups da in
    let right = digest_numbers b.tasks b.groups db in
    let jobs : SearchedHistory → List JobFacts = λ z. map job_left (jobs_held 0 z.steps.book.held) in
    let ready : SearchedHistory → List (Option ReadyView) = λ z. map (option_map ready_view) z.steps.tasks.items in
    let all : rest_of x ++ left ≡ rest_of y ++ right = sym a.numbers ∙ b.numbers in
    let parts = rest_read (jobs x) (jobs y) x.used.items y.used.items (rows_at x) (rows_at y) (ready x) (ready y) left right all in
    let digest = digest_read da db a.tasks a.groups b.tasks b.groups [] [] a.within b.within (ap (λ (l : List ℤ). l ++ []) parts.rest) in
    record { digest = digest.0; waiting = parts.waiting; used = parts.used; fields = parts.fields; ready = parts.ready }

-- where such a history has no record of an executor, it has the fields that the checkpoints start with
start_fields : (script : ScriptView) (bs : List Block) (e : ℕ) → records_of e bs ≡ [] → fields_of script (starts script) e bs ≡ (checkpoint_at (starts script) e).fields
start_fields script bs e none = ap (replay script (checkpoint_at (starts script) e).fields) none

-- the waiting tasks of two such histories have the same plans
same_waiting : (script : ScriptView) (x y : SearchedHistory) → SameFacts x y → length x.steps.book.held ≡ tasks_of (root_count script) x.steps.book.log → length y.steps.book.held ≡ tasks_of (root_count script) y.steps.book.log
    → held_plans script x.steps.book.held ≡ held_plans script y.steps.book.held
same_waiting script x y same places_x places_y =
    let left : SearchedHistory → List (Option WaitingTaskView) = λ z. map (option_map held_left) z.steps.book.held in
    let many : length x.steps.book.held ≡ length y.steps.book.held =
    places_x ∙ tasks_of_is (root_count script) x.steps.book.log ∙ ap (λ (d : Digest). root_count script + d.made) same.digest ∙ sym (tasks_of_is (root_count script) y.steps.book.log) ∙ sym places_y in
    let also : length (left x) ≡ length (left y) = length-map x.steps.book.held (option_map held_left) ∙ many ∙ sym (length-map y.steps.book.held (option_map held_left)) in
    let all : left x ≡ left y = held_read 0 (left x) (left y) also (sym (all_left 0 x.steps.book.held) ∙ same.waiting ∙ all_left 0 y.steps.book.held) in
    sym (held_plans_left script x.steps.book.held) ∙ ap (held_plans script) all ∙ held_plans_left script y.steps.book.held

lead_alike : (script : ScriptView) (bs cs : List Block) (x y : SearchedHistory) → IsHistory script bs x → IsHistory script cs y → SameFacts x y
    → length x.steps.book.held ≡ tasks_of (root_count script) x.steps.book.log → length y.steps.book.held ≡ tasks_of (root_count script) y.steps.book.log → LeadAlike script (starts script) bs cs
lead_alike script bs cs x y hx hy same places_x places_y =
    let flags : (e : ℕ) → has_records (records_of e bs) ≡ has_records (records_of e cs) = λ e. sym (hx.used e) ∙ ap (λ (l : List Bool). slice_index_or l e false) same.used ∙ hy.used e in
    let none_in : (e : ℕ) → records_of e bs ≡ [] → records_of e cs ≡ [] = λ e none. no_records (records_of e cs) (sym (flags e) ∙ ap has_records none) in
    record {
      standing = record {
        digest = ap digest_of (sym hx.followed.led.log_is) ∙ same.digest ∙ ap digest_of hy.followed.led.log_is;
        held = ap (held_plans script) (sym hx.followed.led.held_is) ∙ same_waiting script x y same places_x places_y ∙ ap (held_plans script) hy.followed.led.held_is;
        jobs = λ t.
            ap (option_map (job_plan script)) (hx.followed.led.given t)
            ∙ job_plan_left script t (given_at x.steps.tasks.items t)
            ∙ ap (option_map (plan_by script t)) (at_map x.steps.tasks.items t ∙ ap (λ (l : List (Option ReadyView)). slice_index_or l t None) same.ready ∙ sym (at_map y.steps.tasks.items t))
            ∙ sym (job_plan_left script t (given_at y.steps.tasks.items t))
            ∙ sym (ap (option_map (job_plan script)) (hy.followed.led.given t));
      };
      fields = λ e. elim (cases_lt e (executor_count script)) [
        | inl low ↦
            let have = there (rows_at x) e (omega (arith, low, hx.many)) in
            sym (hx.followed.led.fields_are e have.0 have.1) ∙ hy.followed.led.fields_are e have.0 (ap (λ (l : List (List (List ℤ))). slice_get l e) (sym same.fields) ∙ have.1)
        | inr high ↦
            let none = no_records (records_of e bs) (sym (hx.used e) ∙ past x.used.items e (omega (arith, high, hx.short))) in
            start_fields script bs e none ∙ sym (start_fields script cs e (none_in e none))
      ];
      unused = none_in;
    }

-- histories of one key lead alike
pub alike_keys : (script : ScriptView) (bs cs : List Block) (key : List ℤ) → IsKeyFor script bs key → IsKeyFor script cs key → LeadAlike script (starts script) bs cs
alike_keys script bs cs key one two =
    let x : SearchedHistory = one.0 in
    let y : SearchedHistory = two.0 in
    let hx : IsHistory script bs x = one.1 in
    let hy : IsHistory script cs y = two.1 in
    let nx : IsNumbered x key = one.2 in
    let ny : IsNumbered y key = two.2 in
    let places : (z : SearchedHistory) → z.steps.book.script ≡ script → IsNumbered z key → length z.steps.book.held ≡ tasks_of (root_count script) z.steps.book.log =
    λ z own n. subst (λ (s : ScriptView). length z.steps.book.held ≡ tasks_of (root_count s) z.steps.book.log) own n.places in
    lead_alike script bs cs x y hx hy (same_facts x y key nx ny) (places x hx.followed.book_is nx) (places y hy.followed.book_is ny)

-- outcomes of one key have the same endings and the same fields
pub outcome_read : (a b : RunOutcome) → outcome_bytes a ≡ outcome_bytes b → (a.endings.items ≡ b.endings.items) × (map (λ rows. rows_of rows.items) a.fields.items ≡ map (λ rows. rows_of rows.items) b.fields.items)
outcome_read a b e =
    let fields : RunOutcome → List (List (List ℤ)) = λ o. map (λ rows. rows_of rows.items) o.fields.items in
    let numbers : RunOutcome → List ℤ = λ o. list_numbers end_numbers o.endings.items ++ fields_numbers (fields o) in
    let one = (list_code end_numbers (pair_code origin_numbers ending_numbers origin_code ending_code)).read a.endings.items b.endings.items (fields_numbers (fields a)) (fields_numbers (fields b)) (bytes_read (numbers a) (numbers b) e) in
    let two = fields_code.read (fields a) (fields b) [] [] (ap (λ (l : List ℤ). l ++ []) one.1) in
    (one.0, two.0)
