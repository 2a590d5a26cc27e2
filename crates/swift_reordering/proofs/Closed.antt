-- A list of histories that is closed under steps in which turns that look away begin and run has the outcome of each report.
use Rattle.swift_reordering.proofs.Prelude.{◌≡◌, ◌⊎◌, ℕ, ◌+◌, List, [], ◌∷◌, ◌++◌, refl, sym, ◌∙◌, ap, subst, Bool, inl, inr, append_assoc, append-nil, arith, Option, Some, None, Contains, is_some, ◌||◌, option_map, ScriptView, root_count, FrameView, ExitView, RecordView, CheckpointView, is_cancelled, JobFacts, Block, added, begun, ran, at_first, after_blocks, folded_in, folded_of, Stands, AllStand, ReportView, AllAllowed, IsOrderly, IsOrderlyLegal, ActorsHaveExecutors, Digest, FramePlan, JobPlan, plan_of, frame_plans, job_plan, LeadAlike, IsLike, AreLike, IsOutcome, state_of, FoldsNone, IsNotFolded, same_futures, same_tasks, same_cancelled, NoneFolded, Made, made, none_in, not_folded, lead_on, orderly_too, outcome_too, frames_look_away, job_looks_away, turn_looks_away, code_looks_away, IsFusedStep, MayStep, HasRoom, AreClosed, HasExit, ClosedHasEachOutcome, ClosedHasEachExit}
use Rattle.swift_reordering.proofs.Near.{near_tasks}
use Rattle.swift_reordering.proofs.Walks.{IsCourse, course_none, course_push}
use Rattle.swift_reordering.proofs.Priorities.{cons_cases, cons_here, cons_more, none_there}
use Rattle.swift_reordering.proofs.Fusing.{ArePutOff, AnyTask, any_task, GoesOn, goes_on}
use Rattle.swift_reordering.proofs.Reports.{none_put_off}

-- what follows the front of a history

pub stand_after : (script : ScriptView) (cps : List CheckpointView) (xs before ys : List Block) → AllStand script cps before (xs ++ ys) → AllStand script cps (before ++ xs) ys
stand_after script cps [] before ys all = subst (λ (bs : List Block). AllStand script cps bs ys) (sym (append-nil before)) all
stand_after script cps (x ∷ xs) before ys all = subst (λ (bs : List Block). AllStand script cps bs ys) (append_assoc before (x ∷ []) xs) (stand_after script cps xs (before ++ x ∷ []) ys all.1)

pub allowed_after : (Allowed : List Block → Block → Type 0) (xs before ys : List Block) → AllAllowed Allowed before (xs ++ ys) → AllAllowed Allowed (before ++ xs) ys
allowed_after Allowed [] before ys all = subst (λ (bs : List Block). AllAllowed Allowed bs ys) (sym (append-nil before)) all
allowed_after Allowed (x ∷ xs) before ys all = subst (λ (bs : List Block). AllAllowed Allowed bs ys) (append_assoc before (x ∷ []) xs) (allowed_after Allowed xs (before ++ x ∷ []) ys all.1)

module _ (script : ScriptView) where
  -- jobs of one plan look away both or neither

  frames_away : (cancelled : Bool) (ps qs : List FrameView) → frame_plans script ps ≡ frame_plans script qs → frames_look_away script cancelled ps ≡ frames_look_away script cancelled qs
  frames_away cancelled [] [] same = refl
  frames_away cancelled (p ∷ ps) (q ∷ qs) same = (let one : plan_of script p ≡ plan_of script q = cc same in ap (λ (h : FramePlan). is_some h.pending || code_looks_away cancelled h.todo) one)
  frames_away cancelled _ _ same = absurd (cc same)

  jobs_away : (cancelled : Bool) (o u : Option JobFacts) → option_map (job_plan script) o ≡ option_map (job_plan script) u → job_looks_away script cancelled o ≡ job_looks_away script cancelled u
  jobs_away cancelled None None same = refl
  jobs_away cancelled (Some j) (Some k) same = (let plan : job_plan script j ≡ job_plan script k = cc same in frames_away cancelled j.frames.frames k.frames.frames (ap (λ (h : JobPlan). h.plan.frames) plan))
  jobs_away cancelled _ _ same = absurd (cc same)

  -- turns that are alike end alike
  pub exit_too : (bs cs : List Block) (e : ℕ) (q : RecordView) → AreLike script bs cs → Contains bs (ran e q) → HasExit cs e q.exit
  exit_too [] cs e q like has = absurd (none_there (ran e q) has)
  exit_too (b ∷ bs) [] e q like has = absurd like
  exit_too (b ∷ bs) (c ∷ cs) e q like has = elim (cons_cases b bs (ran e q) has) [
    | inl is ↦
        let one : IsLike script (ran e q) c = subst (λ (x : Block). IsLike script x c) is like.0 in
        record { turn = record q { frame = one.0 }; there = cons_here c cs (ran e (record q { frame = one.0 })) one.2; exit_is = refl }
    | inr more ↦ (let x = exit_too bs cs e q like.1 more in record { turn = x.turn; there = cons_more c cs (ran e x.turn) x.there; exit_is = x.exit_is })
  ]

module _ (script : ScriptView) (cps : List CheckpointView) (others h : List Block) (lead : LeadAlike script cps others h) where
  pub same_away : (t : ℕ) → turn_looks_away script (after_blocks script (at_first script) others) t ≡ turn_looks_away script (after_blocks script (at_first script) h) t
  same_away t =
      let s = after_blocks script (at_first script) others in
      let z = after_blocks script (at_first script) h in
      ap (λ (b : Bool). job_looks_away script b (s.jobs t)) (same_cancelled s.log z.log lead.standing.digest t) ∙ jobs_away script (is_cancelled t z.log) (s.jobs t) (z.jobs t) (lead.standing.jobs t)

  -- a step is one after the other history
  step_too : (more rest : List Block) → IsFusedStep script others more → AreLike script more rest → AllAllowed (IsOrderly script) others more → IsFusedStep script h rest × AllAllowed (IsOrderly script) h rest
  step_too (added r ∷ []) (c ∷ []) step like may =
      (subst (λ (x : Block). IsFusedStep script h (x ∷ [])) like.0 tt, (orderly_too script cps others h lead (added r) c like.0 may.0, tt))
  step_too (begun t n env ∷ []) (c ∷ []) step like may =
      (subst (λ (x : Block). IsFusedStep script h (x ∷ [])) like.0 (sym (same_away t) ∙ step), (orderly_too script cps others h lead (begun t n env) c like.0 may.0, tt))
  step_too (ran e r ∷ []) (c ∷ []) step like may =
      (subst (λ (x : Block). IsFusedStep script h (x ∷ [])) (sym like.0.2) tt, (orderly_too script cps others h lead (ran e r) c like.0 may.0, tt))
  step_too (begun t n env ∷ ran e r ∷ []) (c ∷ d ∷ []) step like may =
      let both : IsFusedStep script h (begun t n env ∷ ran e (record r { frame = like.1.0.0 }) ∷ []) = (sym (same_away t) ∙ step.0, step.1) in (
        subst (λ (x : Block). IsFusedStep script h (x ∷ d ∷ [])) like.0 (subst (λ (x : Block). IsFusedStep script h (begun t n env ∷ x ∷ [])) (sym like.1.0.2) both),
        (orderly_too script cps others h lead (begun t n env) c like.0 may.0, (subst (IsOrderly script (h ++ c ∷ [])) (sym like.1.0.2) tt, tt)),
      )
  step_too (added r ∷ []) [] step like may = absurd like
  step_too (added r ∷ []) (c ∷ d ∷ cs) step like may = absurd like.1
  step_too (begun t n env ∷ []) [] step like may = absurd like
  step_too (begun t n env ∷ []) (c ∷ d ∷ cs) step like may = absurd like.1
  step_too (ran e r ∷ []) [] step like may = absurd like
  step_too (ran e r ∷ []) (c ∷ d ∷ cs) step like may = absurd like.1
  step_too (begun t n env ∷ ran e r ∷ []) [] step like may = absurd like
  step_too (begun t n env ∷ ran e r ∷ []) (c ∷ []) step like may = absurd like.1
  step_too (begun t n env ∷ ran e r ∷ []) (c ∷ d ∷ x ∷ cs) step like may = absurd like.1.1
  step_too more rest step like may = absurd step

-- Histories that are kept: after each of them each step leads alike to one. This is over any predicate, so that a search may say in its own
-- words which it keeps.
module _ (script : ScriptView) (on : ActorsHaveExecutors script) (cps : List CheckpointView) (Kept : List Block → Type 0) (stand : (h : List Block) → Kept h → AllStand script cps [] h) (room : (h : List Block) → Kept h → HasRoom script h)
    (leads : (h step : List Block) → Kept h → MayStep script cps h step → (k : List Block) × Kept k × LeadAlike script cps (h ++ step) k) where
  -- a history, one in which begins are put off, and one of the list that leads alike to that
  pub record HasOne (before : List Block) : Type 0 where
    pub others : List Block
    pub put_off : ArePutOff script cps AnyTask before others
    pub kept : List Block
    pub is_kept : Kept kept
    pub lead : LeadAlike script cps others kept

  has_room : (before : List Block) → HasOne before → HasRoom script before
  has_room before one =
      let many = near_tasks (after_blocks script (at_first script) before).log (after_blocks script (at_first script) one.others).log one.put_off.close.near (root_count script) in
      let same = same_tasks (after_blocks script (at_first script) one.others).log (after_blocks script (at_first script) one.kept).log one.lead.standing.digest (root_count script) in
      let few = room one.kept one.is_kept in
      omega (arith, many, same, few)

  -- a step after a kept history has a turn that ends so
  pub record IsTriedBy (executor : ℕ) (exit : ExitView) : Type 0 where
    pub before : List Block
    pub step : List Block
    pub is_kept : Kept before
    pub may : MayStep script cps before step
    pub has : HasExit step executor exit

  pub record Next (before : List Block) (b : Block) : Type 0 where
    pub one : HasOne (before ++ b ∷ [])
    pub tried : (e : ℕ) (r : RecordView) → b ≡ ran e r → IsTriedBy e r.exit

  next_by : (before : List Block) (b : Block) (one : HasOne before) → (g : GoesOn script cps AnyTask on any_task before one.others b) → (g.more ≡ []) ⊎ IsFusedStep script one.others g.more → Next before b
  next_by before b one g (inl none) = record {
    one = record {
      others = one.others ++ g.more;
      put_off = g.put_off;
      kept = one.kept;
      is_kept = one.is_kept;
      lead = subst (λ (xs : List Block). LeadAlike script cps xs one.kept) (sym (append-nil one.others) ∙ ap (λ (xs : List Block). one.others ++ xs) (sym none)) one.lead;
    };
    tried = λ e r is. (let x = g.has e r is in absurd (none_there (ran e x.turn) (subst (λ (xs : List Block). Contains xs (ran e x.turn)) none x.there)));
  }
  next_by before b one g (inr step) =
      let more : List Block = g.more in
      let stands : AllStand script cps one.others more = stand_after script cps one.others [] more g.put_off.course.stand in
      let may : AllAllowed (IsOrderly script) one.others more = allowed_after (IsOrderly script) one.others [] more g.put_off.course.orderly in
      let o = same_futures script cps one.others one.kept more one.put_off.course.stand (stand one.kept one.is_kept) one.lead stands in
      let rest : List Block = o.0 in
      let both = step_too script cps one.others one.kept one.lead more rest step o.1 may in
      let steps : MayStep script cps one.kept rest = record { fused = both.0; stands = o.2; orderly = both.1 } in
      let k = leads one.kept rest one.is_kept steps in
      record {
        one = record { others = one.others ++ more; put_off = g.put_off; kept = k.0; is_kept = k.1; lead = lead_on script cps (one.others ++ more) (one.kept ++ rest) k.0 o.3 k.2 };
        tried = λ e r is.
            (let x = g.has e r is in
            let y = exit_too script more rest e x.turn o.1 x.there in
            record { before = one.kept; step = rest; is_kept = one.is_kept; may = steps; has = record { turn = y.turn; there = y.there; exit_is = y.exit_is ∙ x.exit_is } });
      }

  pub has_next : (before : List Block) (b : Block) → IsCourse script cps before → IsNotFolded b → Stands script cps before b → IsOrderly script before b → HasOne before → Next before b
  has_next before b course unfolded stands orderly one =
      let g = goes_on script cps AnyTask on any_task before one.others b course (has_room before one) one.put_off unfolded stands orderly in
      next_by before b one g g.step

  pub record HasAll (before bs : List Block) : Type 0 where
    pub one : HasOne (before ++ bs)
    pub tried : (e : ℕ) (r : RecordView) → Contains bs (ran e r) → IsTriedBy e r.exit

  pub has_all : (bs before : List Block) → IsCourse script cps before → AllStand script cps before bs → AllAllowed (IsOrderly script) before bs → NoneFolded script on cps bs → HasOne before → HasAll before bs
  has_all [] before course stand may none one = record { one = subst HasOne (sym (append-nil before)) one; tried = λ e r has. absurd (none_there (ran e r) has) }
  has_all (b ∷ bs) before course stand may none one =
      let next = has_next before b course (not_folded script on cps before b bs course.stand stand.0 none) stand.0 may.0 one in
      let rest = has_all bs (before ++ b ∷ []) (course_push script cps before b course stand.0 may.0) stand.1 may.1 (λ e low. (none_in script on cps (folded_in e b) (folded_of e bs) (none e low)).1) next.one in
      record {
        one = subst HasOne (append_assoc before (b ∷ []) bs) rest.one;
        tried = λ e r has. elim (cons_cases b bs (ran e r) has) [ inl here ↦ next.tried e r here | inr later ↦ rest.tried e r later ];
      }

  pub first_one : (k : List Block) → Kept k → LeadAlike script cps [] k → HasOne []
  first_one k is_kept lead = record { others = []; put_off = none_put_off script cps on; kept = k; is_kept = is_kept; lead = lead }

-- what is near has the same outcome
pub outcome_near : (script : ScriptView) (cps : List CheckpointView) (report : ReportView) (before others : List Block) → ArePutOff script cps AnyTask before others → IsOutcome script (state_of script cps before) report → IsOutcome script (state_of script cps others) report
outcome_near script cps report before others was is =
    let same = was.close.near in
    record {
      tasks = is.tasks ∙ ap (λ (d : Digest). root_count script + d.made) same;
      endings = λ t y at.
          (let says = is.endings t y at in
          (ap (λ (d : Digest). (d.cards t).life.origin) (sym same) ∙ says.0, ap (λ (d : Digest). (d.cards t).life.ending) (sym same) ∙ says.1));
      fields = λ e f at. is.fields e f at ∙ was.fields e;
    }

module _ (script : ScriptView) (histories : List (List Block)) (report : ReportView) (on : ActorsHaveExecutors script) (closed : AreClosed script histories) (orderly : IsOrderlyLegal script report) (folds : FoldsNone report) where
  is_made : Made script report orderly.legal
  is_made = made script report orderly.legal folds

  abbrev cps : List CheckpointView
  cps = report.checkpoints

  abbrev Kept : List Block → Type 0
  Kept h = Contains histories h

  stand : (h : List Block) → Kept h → AllStand script cps [] h
  stand h has = closed.stand cps h is_made.fresh has

  leads : (h step : List Block) → Kept h → MayStep script cps h step → (k : List Block) × Kept k × LeadAlike script cps (h ++ step) k
  leads h step has may = closed.next cps h step is_made.fresh has may

  all_of : HasAll script on cps Kept stand closed.room leads [] orderly.legal.blocks
  all_of =
      let k = closed.first cps is_made.fresh in
      has_all script on cps Kept stand closed.room leads orderly.legal.blocks [] (course_none script cps) orderly.legal.stand orderly.orderly is_made.none (first_one script on cps Kept stand closed.room leads k.0 k.1 k.2)

pub closed_outcome : ClosedHasEachOutcome
unfolding is_made
closed_outcome script histories report on closed orderly folds =
    let m = is_made script histories report on closed orderly folds in
    let one = (all_of script histories report on closed orderly folds).one in
    let cps = report.checkpoints in
    (one.kept, one.is_kept, outcome_too script cps report one.others one.kept one.lead (outcome_near script cps report orderly.legal.blocks one.others one.put_off m.outcome))

pub closed_exit : ClosedHasEachExit
closed_exit script histories report on closed orderly folds e r has =
    let tried = (all_of script histories report on closed orderly folds).tried e r has in
    record { before = tried.before; step = tried.step; kept = tried.is_kept; may = tried.may; has = tried.has }
