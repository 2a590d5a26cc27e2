-- Executors run one turn at a time: two tasks whose turns have begun are at different executors.
use Rattle.swift_reordering.proofs.Prelude.{◌≡◌, ◌≢◌, ℕ, List, [], ◌∷◌, ◌++◌, refl, sym, ◌∙◌, ap, subst, Bool, true, false, inl, inr, append_assoc, append-nil, Option, Some, None, ◌==◌, if◌then◌else◌, cases_Bool, cases_eq, eq-eqb, eqb-true, false≢true, ne_eqb, Env, Priority, ScriptView, root_count, root_priority, FrameView, EffectView, ExitView, Advanced, advanced, CheckpointView, Event, Root, Begin, Apply, Wait, Next, Close, Give, JobStage, Given, Begun, Applied, later, task_of, life_of, stage_in, is_begun, JobFacts, TurnEnd, task, gives, root_job, root_events, exit_events, log_after, turn_end, Block, added, begun, ran, folded, Standing, at_first, after_block, after_blocks, with_jobs, taken, begun_priority, left_as, turn_applied, TurnStands, Stands, IsOrderly, job_executor, after_push, applied_is, begins, keeps_applied, keeps_turn, stage_at, unborn_without, Life}
use Rattle.swift_reordering.proofs.SeenEnds.{stage_push}
use Rattle.swift_reordering.proofs.Walks.{IsCourse, along}

-- whether the turn of a task has begun
abbrev pub HasBegun : List Event → ℕ → Type 0
HasBegun log u = is_begun (stage_at log u) ≡ true

-- what no begin says of a task leaves it begun only where it says nothing

quiet_stage : (e : Event) (b : Bool) (s : Option JobStage) → begins e ≡ false → is_begun (later (if b then stage_in e else None) s) ≡ true → later (if b then stage_in e else None) s ≡ s
quiet_stage (Begin t n env) true s quiet is = absurd (cc quiet)
quiet_stage (Apply t n) true s quiet is = absurd (cc is)
quiet_stage (Give t n resume) true s quiet is = absurd (cc is)
quiet_stage (Wait t awaited) true s quiet is = absurd (cc is)
quiet_stage (Next o g) true s quiet is = absurd (cc is)
quiet_stage (Close o g) true s quiet is = absurd (cc is)
quiet_stage e false s quiet is = refl
quiet_stage _ _ s quiet is = refl

-- a task that has begun in the end had begun before, and is at the same stage
abbrev pub OnlyStays : List Event → ℕ → List Event → Type 0
OnlyStays first u log = HasBegun log u → stage_at log u ≡ stage_at first u

stays_push : (first : List Event) (u : ℕ) (log : List Event) (e : Event) → begins e ≡ false → OnlyStays first u log → OnlyStays first u (log ++ e ∷ [])
stays_push first u log e quiet was has =
    let is = stage_push u log e in
    let now = quiet_stage e (task_of e == u) (stage_at log u) quiet (ap is_begun (sym is) ∙ has) in
    is ∙ now ∙ was (ap is_begun (sym now) ∙ ap is_begun (sym is) ∙ has)

stays_gives : (first : List Event) (u : ℕ) (log : List Event) (js : List JobFacts) → OnlyStays first u log → OnlyStays first u (log ++ gives js)
stays_gives first u log [] was = subst (OnlyStays first u) (sym (append-nil log)) was
stays_gives first u log (j ∷ js) was =
    let e : Event = Give (task j.task) j.number j.resume in
    subst (OnlyStays first u) (append_assoc log (e ∷ []) (gives js)) (stays_gives first u (log ++ e ∷ []) js (stays_push first u log e refl was))

-- no such task has got one of these jobs
with_gives : (js : List JobFacts) (log : List Event) (f : ℕ → Option JobFacts) (u : ℕ) → HasBegun (log ++ gives js) u → with_jobs js f u ≡ f u
with_gives [] log f u has = refl
with_gives (j ∷ js) log f u has =
    let e : Event = Give (task j.task) j.number j.resume in
    let here : HasBegun ((log ++ e ∷ []) ++ gives js) u = subst (λ (l : List Event). HasBegun l u) (sym (append_assoc log (e ∷ []) (gives js))) has in
    with_gives js (log ++ e ∷ []) (λ w. if w == j.task then Some j else f w) u here
    ∙ elim (cases_Bool (u == j.task)) [
      | inl same ↦
          let given : stage_at (log ++ e ∷ []) u ≡ Some Given = stage_push u log e ∙ ap (λ (b : Bool). later (if b then Some Given else None) (stage_at log u)) (eq-eqb j.task u (sym (eqb-true u j.task same))) in
          let now = stays_gives (log ++ e ∷ []) u (log ++ e ∷ []) js (λ _. refl) here in
          absurd (false≢true (sym (ap is_begun (now ∙ given)) ∙ here))
      | inr other ↦ ap (λ (b : Bool). if b then Some j else f u) other
    ]

-- each task that has begun had begun before, with the same job
pub record OnlyStay (s z : Standing) (u : ℕ) : Type 0 where
  pub stage : stage_at z.log u ≡ stage_at s.log u
  pub job : z.jobs u ≡ s.jobs u

module _ (script : ScriptView) (s : Standing) where
  -- after a turn, which is then that of another task
  pub turn_stays : (e t n : ℕ) (effects : List EffectView) (exit : ExitView) (after : Option FrameView) (job : JobFacts) (env : Env) (frame : FrameView) → TurnStands script s e t n effects exit job env frame
      → (u : ℕ) → HasBegun (turn_applied script s t n effects exit after).log u → (u ≢ t) × OnlyStay s (turn_applied script s t n effects exit after) u
  turn_stays e t n effects exit after job env frame stands u has =
      let own : Priority = begun_priority (stage_at s.log t) in
      let adv : Advanced = advanced script (left_as frame effects after) stands.runs.0 job.frames.outer exit in
      let is = applied_is script s t n job frame stands.runs.0 effects exit after stands.given stands.runs.1 in
      let x : TurnEnd = turn_end script s.log s.held t n own effects exit adv in
      let now : HasBegun x.log u = subst (λ (z : Standing). HasBegun z.log u) is has in
      let begun_log : List Event = s.log ++ Apply (task t) n ∷ [] in
      let done : List Event = log_after (root_count script) t own begun_log effects in
      let written : List Event = done ++ exit_events t done exit adv.step in
      let stage : stage_at x.log u ≡ stage_at s.log u = keeps_turn (OnlyStays s.log u) (stays_push s.log u) script s.log s.held t n own effects exit adv (λ _. refl) now in
      let apart : u ≢ t = λ same.
      (let applied : stage_at begun_log u ≡ Some Applied = stage_push u s.log (Apply (task t) n)
      ∙ ap (λ (b : Bool). later (if b then Some Applied else None) (stage_at s.log u)) (eq-eqb t u (sym same)) in
      let kept : stage_at x.log u ≡ stage_at begun_log u = keeps_applied (OnlyStays begun_log u) (stays_push begun_log u) script s.log s.held t n own effects exit adv (λ _. refl) now in
      false≢true (sym (ap is_begun (kept ∙ applied)) ∙ now)) in
      let jobs : with_jobs x.jobs (taken t s.jobs) u ≡ s.jobs u =
      with_gives x.jobs written (taken t s.jobs) u now ∙ ap (λ (b : Bool). if b then None else s.jobs u) (ne_eqb u t apart) in
      subst (λ (z : Standing). (u ≢ t) × OnlyStay s z u) (sym is) (apart, record { stage = stage; job = jobs })

  pub root_stays : (r u : ℕ) → HasBegun (s.log ++ root_events script r) u → OnlyStay s (after_block script s (added r)) u
  root_stays r u has =
      let e : Event = Root (task r) (root_priority script r) in
      let here : HasBegun ((s.log ++ e ∷ []) ++ gives (root_job script r ∷ [])) u = subst (λ (l : List Event). HasBegun l u) (sym (append_assoc s.log (e ∷ []) (gives (root_job script r ∷ [])))) has in
      record {
        stage = subst (λ (l : List Event). OnlyStays s.log u l) (append_assoc s.log (e ∷ []) (gives (root_job script r ∷ [])))
            (stays_gives s.log u (s.log ++ e ∷ []) (root_job script r ∷ []) (stays_push s.log u s.log e refl (λ _. refl))) has;
        job = with_gives (root_job script r ∷ []) (s.log ++ e ∷ []) s.jobs u here;
      }

-- no two tasks whose turns have begun are at one executor
abbrev pub AreApart : ScriptView → Standing → Type 0
AreApart script s = (u v : ℕ) → HasBegun s.log u → HasBegun s.log v → job_executor script (s.jobs u) ≡ job_executor script (s.jobs v) → u ≡ v

apart_stays : (script : ScriptView) (s z : Standing) → AreApart script s → ((u : ℕ) → HasBegun z.log u → OnlyStay s z u) → AreApart script z
apart_stays script s z apart stays u v has also same =
    let one = stays u has in
    let two = stays v also in
    apart u v (ap is_begun (sym one.stage) ∙ has) (ap is_begun (sym two.stage) ∙ also) (ap (job_executor script) (sym one.job) ∙ same ∙ ap (job_executor script) two.job)

-- a begin is of one task
pub begin_other : (t n : ℕ) (env : Env) (log : List Event) (u : ℕ) → t ≢ u → stage_at (log ++ Begin (task t) n env ∷ []) u ≡ stage_at log u
begin_other t n env log u ne = stage_push u log (Begin (task t) n env) ∙ ap (λ (b : Bool). later (if b then Some (Begun env) else None) (stage_at log u)) (ne_eqb t u ne)

pub begin_same : (t n : ℕ) (env : Env) (log : List Event) → stage_at (log ++ Begin (task t) n env ∷ []) t ≡ Some (Begun env)
begin_same t n env log = stage_push t log (Begin (task t) n env) ∙ ap (λ (b : Bool). later (if b then Some (Begun env) else None) (stage_at log t)) (eq-eqb t t refl)

apart_begun : (script : ScriptView) (s : Standing) (t n : ℕ) (env : Env) → ((u : ℕ) → job_executor script (s.jobs u) ≡ job_executor script (s.jobs t) → is_begun (life_of u s.log).stage ≡ false)
    → AreApart script s → AreApart script (after_block script s (begun t n env))
apart_begun script s t n env free apart u v has also same =
    let was : (w : ℕ) → t ≢ w → HasBegun (s.log ++ Begin (task t) n env ∷ []) w → HasBegun s.log w = λ w ne is. ap is_begun (sym (begin_other t n env s.log w ne)) ∙ is in
    let seat : ℕ → Option ℕ = λ w. job_executor script (s.jobs w) in
    elim (cases_eq t u) [
      | inl one ↦ elim (cases_eq t v) [
        | inl two ↦ sym one ∙ two
        | inr ne ↦ absurd (false≢true (sym (free v (sym same ∙ ap seat (sym one))) ∙ was v ne also))
      ]
      | inr other ↦ elim (cases_eq t v) [
        | inl two ↦ absurd (false≢true (sym (free u (same ∙ ap seat (sym two))) ∙ was u other has))
        | inr ne ↦ apart u v (was u other has) (was v ne also) same
      ]
    ]

module _ (script : ScriptView) (cps : List CheckpointView) where
  apart_next : (before : List Block) (b : Block) → IsCourse script cps before → Stands script cps before b → IsOrderly script before b → AreApart script (after_blocks script (at_first script) before)
      → AreApart script (after_block script (after_blocks script (at_first script) before) b)
  apart_next before (added r) course stands orderly apart = apart_stays script (after_blocks script (at_first script) before) _ apart (root_stays script (after_blocks script (at_first script) before) r)
  apart_next before (ran e r) course stands orderly apart =
      let s = after_blocks script (at_first script) before in
      apart_stays script s _ apart (λ u has. (turn_stays script s e r.task r.number r.effects r.exit r.after stands.job r.env r.frame stands.stands u has).1)
  apart_next before (folded e f) course stands orderly apart =
      let s = after_blocks script (at_first script) before in
      apart_stays script s _ apart (λ u has. (turn_stays script s e f.task f.number f.effects f.exit f.after stands.0.job stands.0.env stands.0.frame stands.0.stands u has).1)
  apart_next before (begun t n env) course stands orderly apart = apart_begun script (after_blocks script (at_first script) before) t n env orderly.1 apart

  pub all_apart : (bs : List Block) → IsCourse script cps bs → AreApart script (after_blocks script (at_first script) bs)
  all_apart bs course =
      along script cps (λ (xs : List Block). AreApart script (after_blocks script (at_first script) xs))
      (λ before b course stands orderly apart. subst (AreApart script) (sym (after_push script (at_first script) before b)) (apart_next before b course stands orderly apart))
      (λ u v has also same. absurd (false≢true (sym (ap is_begun (none_at u)) ∙ has)))
      bs course
    where
      none_at : (u : ℕ) → stage_at [] u ≡ None
      none_at u = ap (λ (l : Life). l.stage) (unborn_without u [] refl)
