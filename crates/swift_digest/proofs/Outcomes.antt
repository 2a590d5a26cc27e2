-- An exploration has the outcome of each legal report.
use Rattle.swift_digest.proofs.Prelude.{◌≡◌, ℕ, ◌+◌, ◌<◌, List, [], ◌∷◌, ◌++◌, refl, sym, ◌∙◌, ap, subst, arith, append_assoc, append-nil, Option, Some, None, is_some, ◌==◌, Contains, cons_option, cond-true, eq-eqb, Life, life_of, tasks_of, ScriptView, root_count, executor_count, method_actor, actor_executor, FoldedView, CheckpointView, Block, added, begun, ran, folded, folded_in, folded_of, at_first, after_blocks, Stands, AllStand, ReportView, IsLegal, LeadAlike, IsLike, FramePlan, JobPlan, plan_of, frame_plans, job_plan, FrameView, option_map, is_begun, JobFacts}
use Rattle.swift_laws.specs.Laws.{ActorsHaveExecutors}
use Rattle.swift_laws.proofs.HistoriesApplied.{some_root, there}
use Rattle.swift_history.specs.Orderly.{AllAllowed, IsOrderly, job_executor, frames_executor}
use Rattle.swift_digest.specs.Explored.{ExploredState, state_of, StartsFresh, IsNotFolded, AreExplored, IsAnyBlock, IsOutcome, FoldsNone, ExploredHasEachOutcome, ExploredHasEachOrderlyOutcome, AreRepresented, RepresentedHasEachOutcome}
use Rattle.swift_digest.proofs.Answers.{tasks_of_is, life_of_is}
use Rattle.swift_digest.proofs.Cards.{bare}
use Rattle.swift_digest.proofs.SameStands.{all_push, block_stands, lead_push}
use Rattle.swift_digest.proofs.SameLogs.{same_life}

module _ (script : ScriptView) (on : ActorsHaveExecutors script) (cps : List CheckpointView) where
  -- no block is a folded turn
  abbrev pub NoneFolded : List Block → Type 0
  NoneFolded bs = (e : ℕ) → e < executor_count script → folded_of e bs ≡ []

  pub none_in : (o : Option FoldedView) (fs : List FoldedView) → cons_option o fs ≡ [] → (o ≡ None) × (fs ≡ [])
  none_in None fs is = (refl, is)
  none_in (Some f) fs is = absurd (cc is)

  -- a turn stands only where there is a root
  some : (before : List Block) (e : ℕ) (f : FoldedView) → AllStand script cps [] before → Stands script cps before (folded e f) → 0 < root_count script
  some [] e f stood stands = some_root script cps (folded e f) stands
  some (b ∷ before) e f stood stands = some_root script cps b stood.0

  pub not_folded : (before : List Block) (b : Block) (bs : List Block) → AllStand script cps [] before → Stands script cps before b → NoneFolded (b ∷ bs) → IsNotFolded b
  not_folded before (added r) bs stood stands none = tt
  not_folded before (begun t n env) bs stood stands none = tt
  not_folded before (ran e r) bs stood stands none = tt
  not_folded before (folded e f) bs stood stands none =
      let low : e < executor_count script = subst (λ (k : ℕ). k < executor_count script) stands.0.stands.on (on (some before e f stood stands) (method_actor script stands.0.frame.method)) in
      let is : folded_in e (folded e f) ≡ Some f = cond-true (e == e) (Some f) None (eq-eqb e e refl) in
      let no = none_in (folded_in e (folded e f)) (folded_of e bs) (none e low) in
      absurd (cc (is, no.0))

module _ (script : ScriptView) (Allowed : List Block → Block → Type 0) (states : List ExploredState) (explored : AreExplored script Allowed states) (on : ActorsHaveExecutors script) (cps : List CheckpointView) (fresh : StartsFresh script cps) where
  allowed_push : (xs before : List Block) (b : Block) → AllAllowed Allowed before xs → Allowed (before ++ xs) b → AllAllowed Allowed before (xs ++ b ∷ [])
  allowed_push [] before b all is = (subst (λ (ys : List Block). Allowed ys b) (append-nil before) is, tt)
  allowed_push (x ∷ xs) before b all is = (all.0, allowed_push xs (before ++ x ∷ []) b all.1 (subst (λ (ys : List Block). Allowed ys b) (sym (append_assoc before (x ∷ []) xs)) is))

  explored_all : (bs before : List Block) → AllStand script cps [] before → AllAllowed Allowed [] before → AllStand script cps before bs → AllAllowed Allowed before bs → NoneFolded script on cps bs → Contains states (state_of script cps before)
      → Contains states (state_of script cps (before ++ bs))
  explored_all [] before stood was stand may none has = subst (λ (xs : List Block). Contains states (state_of script cps xs)) (sym (append-nil before)) has
  explored_all (b ∷ bs) before stood was stand may none has =
      let next = explored.next cps before b fresh stood was (not_folded script on cps before b bs stood stand.0 none) stand.0 may.0 has in
      subst (λ (xs : List Block). Contains states (state_of script cps xs)) (append_assoc before (b ∷ []) bs)
      (explored_all bs (before ++ b ∷ []) (all_push script cps before [] b stood stand.0) (allowed_push before [] b was may.0) stand.1 may.1 (λ e low. (none_in script on cps (folded_in e b) (folded_of e bs) (none e low)).1) next)

  pub explored_has : (bs : List Block) → AllStand script cps [] bs → AllAllowed Allowed [] bs → NoneFolded script on cps bs → Contains states (state_of script cps bs)
  explored_has bs stand may none = explored_all bs [] tt tt stand may none (explored.first cps fresh)

-- what a legal report without folded turns is made by, and what it says at its end
pub record Made (script : ScriptView) (report : ReportView) (legal : IsLegal script report) : Type 0 where
  pub fresh : StartsFresh script report.checkpoints
  pub none : (e : ℕ) → e < executor_count script → folded_of e legal.blocks ≡ []
  pub outcome : IsOutcome script (state_of script report.checkpoints legal.blocks) report

pub made : (script : ScriptView) (report : ReportView) (legal : IsLegal script report) → FoldsNone report → Made script report legal
made script report legal folds =
    let s = after_blocks script (at_first script) legal.blocks in
    let tasks : tasks_of (root_count script) report.log ≡ tasks_of (root_count script) s.log = ap (tasks_of (root_count script)) legal.log in
    let life : (t : ℕ) → life_of t report.log ≡ life_of t s.log = λ t. ap (life_of t) legal.log in
    record {
      fresh = record { count = legal.executors.1; each = λ e c at. (legal.start e c at (folds e c at), folds e c at) };
      none = λ e low.
          let count = legal.executors.1 in
          let c = there report.checkpoints e (omega (arith, low, count)) in
          sym (legal.folded e c.0 c.1) ∙ folds e c.0 c.1;
      outcome = record {
        tasks = legal.tasks ∙ tasks ∙ tasks_of_is (root_count script) s.log;
        endings = λ t y at.
            let is = sym (ap bare (life t) ∙ life_of_is t s.log) in
            let says = legal.endings t y at in
            (ap (λ (l : Life). l.origin) is ∙ says.0, ap (λ (l : Life). l.ending) is ∙ says.1);
        fields = λ e f at. legal.fields e f at;
      };
    }

outcome : (script : ScriptView) (Allowed : List Block → Block → Type 0) (states : List ExploredState) (report : ReportView) → ActorsHaveExecutors script → AreExplored script Allowed states
    → (legal : IsLegal script report) → AllAllowed Allowed [] legal.blocks → FoldsNone report → (x : ExploredState) × Contains states x × IsOutcome script x report
outcome script Allowed states report on explored legal may folds =
    let m = made script report legal folds in
    (state_of script report.checkpoints legal.blocks, explored_has script Allowed states explored on report.checkpoints m.fresh legal.blocks legal.stand may m.none, m.outcome)

any_allowed : (bs before : List Block) → AllAllowed IsAnyBlock before bs
any_allowed [] before = tt
any_allowed (b ∷ bs) before = (tt, any_allowed bs (before ++ b ∷ []))

pub each_outcome : ExploredHasEachOutcome
each_outcome script states report on explored legal folds = outcome script IsAnyBlock states report on explored legal (any_allowed legal.blocks []) folds

pub each_orderly_outcome : ExploredHasEachOrderlyOutcome
each_orderly_outcome script states report on explored orderly folds = outcome script (IsOrderly script) states report on explored orderly.legal orderly.orderly folds

-- one history for each standing

module _ (script : ScriptView) where
  frames_by : (ps qs : List FrameView) → frame_plans script ps ≡ frame_plans script qs → frames_executor script ps ≡ frames_executor script qs
  frames_by [] [] same = refl
  frames_by (p ∷ ps) (q ∷ qs) same = let one : plan_of script p ≡ plan_of script q = cc same in ap (λ (h : FramePlan). Some (actor_executor script (method_actor script h.method))) one
  frames_by _ _ same = absurd (cc same)

  by_plans : (o u : Option JobFacts) → option_map (job_plan script) o ≡ option_map (job_plan script) u → job_executor script o ≡ job_executor script u
  by_plans None None same = refl
  by_plans (Some j) (Some k) same = let plan : job_plan script j ≡ job_plan script k = cc same in frames_by j.frames.frames k.frames.frames (ap (λ (h : JobPlan). h.plan.frames) plan)
  by_plans _ _ same = absurd (cc same)

module _ (script : ScriptView) (cps : List CheckpointView) where
  pub lead_on : (a b c : List Block) → LeadAlike script cps a b → LeadAlike script cps b c → LeadAlike script cps a c
  lead_on a b c one two = record {
    standing = record { digest = one.standing.digest ∙ two.standing.digest; held = one.standing.held ∙ two.standing.held; jobs = λ t. one.standing.jobs t ∙ two.standing.jobs t };
    fields = λ e. one.fields e ∙ two.fields e;
    unused = λ e none. two.unused e (one.unused e none);
  }

  pub orderly_too : (before others : List Block) → LeadAlike script cps before others → (b c : Block) → IsLike script b c → IsOrderly script before b → IsOrderly script others c
  orderly_too before others lead (added r) c like is =
      let s = after_blocks script (at_first script) before in
      let z = after_blocks script (at_first script) others in
      subst (IsOrderly script others) like (λ u low. ap (λ (l : Life). is_some l.origin) (sym (same_life s.log z.log lead.standing.digest u)) ∙ is u low)
  orderly_too before others lead (begun t n env) c like is =
      let s = after_blocks script (at_first script) before in
      let z = after_blocks script (at_first script) others in
      let one : (u : ℕ) → job_executor script (s.jobs u) ≡ job_executor script (z.jobs u) = λ u. by_plans script (s.jobs u) (z.jobs u) (lead.standing.jobs u) in
      subst (IsOrderly script others) like (
        λ u low. ap (λ (l : Life). is_some l.origin) (sym (same_life s.log z.log lead.standing.digest u)) ∙ is.0 u low,
        λ u same. ap (λ (l : Life). is_begun l.stage) (sym (same_life s.log z.log lead.standing.digest u)) ∙ is.1 u (one u ∙ same ∙ sym (one t)),
      )
  orderly_too before others lead (ran e r) c like is = subst (IsOrderly script others) (sym like.2) tt
  orderly_too before others lead (folded e f) c like is = subst (IsOrderly script others) like tt

  pub unfolded_too : (b c : Block) → IsLike script b c → IsNotFolded b → IsNotFolded c
  unfolded_too (ran e r) c like is = subst IsNotFolded (sym like.2) tt
  unfolded_too (folded e f) c like is = absurd is
  unfolded_too _ c like is = subst IsNotFolded like tt

module _ (script : ScriptView) (histories : List (List Block)) (reps : AreRepresented script histories) (on : ActorsHaveExecutors script) (cps : List CheckpointView) (fresh : StartsFresh script cps) where
  abbrev HasOne : List Block → Type 0
  HasOne bs = (k : List Block) × Contains histories k × LeadAlike script cps bs k

  has_next : (before : List Block) (b : Block) → AllStand script cps [] before → IsNotFolded b → Stands script cps before b → IsOrderly script before b → HasOne before → HasOne (before ++ b ∷ [])
  has_next before b stood unfolded stands orderly one =
      let h : List Block = one.0 in
      let also : AllStand script cps [] h = reps.stand cps h fresh one.1 in
      let o = block_stands script cps before h one.2 stood also b stands in
      let c : Block = o.other in
      let k = reps.next cps h c fresh one.1 (unfolded_too script cps b c o.like unfolded) o.stands (orderly_too script cps before h one.2 b c o.like orderly) in
      let lead = lead_push script cps before h one.2 b c o.like (all_push script cps before [] b stood stands) (all_push script cps h [] c also o.stands) in
      (k.0, k.1, lead_on script cps (before ++ b ∷ []) (h ++ c ∷ []) k.0 lead k.2)

  has_all : (bs before : List Block) → AllStand script cps [] before → AllStand script cps before bs → AllAllowed (IsOrderly script) before bs → NoneFolded script on cps bs → HasOne before → HasOne (before ++ bs)
  has_all [] before stood stand may none one = subst HasOne (sym (append-nil before)) one
  has_all (b ∷ bs) before stood stand may none one =
      subst HasOne (append_assoc before (b ∷ []) bs)
      (has_all bs (before ++ b ∷ []) (all_push script cps before [] b stood stand.0) stand.1 may.1 (λ e low. (none_in script on cps (folded_in e b) (folded_of e bs) (none e low)).1)
      (has_next before b stood (not_folded script on cps before b bs stood stand.0 none) stand.0 may.0 one))

pub outcome_too : (script : ScriptView) (cps : List CheckpointView) (report : ReportView) (a b : List Block) → LeadAlike script cps a b → IsOutcome script (state_of script cps a) report → IsOutcome script (state_of script cps b) report
outcome_too script cps report a b lead is = grind arith

pub each_represented : RepresentedHasEachOutcome
each_represented script histories report on reps orderly folds =
    let legal = orderly.legal in
    let m = made script report legal folds in
    let one = has_all script histories reps on report.checkpoints m.fresh legal.blocks [] tt legal.stand orderly.orderly m.none (reps.first report.checkpoints m.fresh) in
    (one.0, one.1, outcome_too script report.checkpoints report legal.blocks one.0 one.2 m.outcome)
