-- In each history, where a task is in a turn that has begun, the log has that begin.
use Rattle.swift_laws.proofs.Prelude.{◌≡◌, ℕ, List, [], ◌∷◌, ◌++◌, refl, sym, ◌∙◌, ap, false, inl, inr, subst, append_assoc, Option, Some, None, IfSome, list_any, cases_eq, ne_eqb, false≢true, true≢false, Env, ScriptView, root_count, RecordView, CheckpointView, Event, Begin, Apply, Wait, Next, Close, Give, Life, LastJob, JobStage, task_of, later, life_of, given_in, stage_in, list_any-push_no, life_of-push_same, life_of-push_other, unborn_without, is_begun, task, Block, ran, Standing, AllStand, IsLegal, ReportView, after_blocks, at_first, IsRecord, begins_turn, BeginsIn}
use Rattle.swift_events.specs.declared.life.JobStage.TheVariants as stage
use Rattle.swift_events.specs.Room.{IsEnv}
use Rattle.swift_laws.proofs.HistoriesCounted.{HasNumber}
use Rattle.swift_laws.proofs.HistoriesTurns.{current_is, after_push}
use Rattle.swift_laws.proofs.HistoriesGrow.{begins, keeps_blocks, log_grows, turn_extends}
use Rattle.swift_laws.proofs.HistoriesSplit.{at_record}

-- the last begin of a turn of the task, which is that of its last job
pub record HasBegun (script : ScriptView) (log : List Event) (given : Option LastJob) (t : ℕ) (env : Env) : Type 0 where
  pub number : ℕ
  pub is_number : IfSome given (λ g. g.number ≡ number)
  pub before : List Event
  pub since : List Event
  pub parts : log ≡ before ++ Begin (task t) number env ∷ since
  pub once : list_any (begins_turn t) since ≡ false
  pub is_env : IsEnv (root_count script) (task t) before env

abbrev pub AllBegun : ScriptView → List Event → Type 0
AllBegun script log = (t : ℕ) (env : Env) → (life_of t log).stage ≡ Some (stage.Begun env) → HasBegun script log (life_of t log).given t env

begins_none : (t : ℕ) (e : Event) → begins e ≡ false → begins_turn t e ≡ false
begins_none t (Begin u n x) none = absurd (true≢false none)
begins_none t e none = refl

-- an event that begins no turn leaves a stage, and the job with it, or ends it
was_begun : (e : Event) (s : Option JobStage) (g : Option LastJob) (env : Env) → begins e ≡ false → later (stage_in e) s ≡ Some (stage.Begun env) → (s ≡ Some (stage.Begun env)) × (later (given_in e) g ≡ g)
was_begun (Begin u n x) s g env none is = absurd (true≢false none)
was_begun (Apply u n) s g env none is = absurd (false≢true (ap is_begun is))
was_begun (Give u n resume) s g env none is = absurd (false≢true (ap is_begun is))
was_begun (Wait u awaited) s g env none is = absurd (false≢true (ap is_begun is))
was_begun (Next o k) s g env none is = absurd (false≢true (ap is_begun is))
was_begun (Close o k) s g env none is = absurd (false≢true (ap is_begun is))
was_begun _ s g env none is = (is, refl)

more_begun : (script : ScriptView) (log : List Event) (e : Event) (t : ℕ) (env : Env) (g : Option LastJob) → begins_turn t e ≡ false → (life_of t log).given ≡ g → HasBegun script log (life_of t log).given t env → HasBegun script (log ++ e ∷ []) g t env
more_begun script log e t env g none same h = record {
  number = h.number;
  is_number = subst (λ (x : Option LastJob). IfSome x (λ y. y.number ≡ h.number)) same h.is_number;
  before = h.before;
  since = h.since ++ e ∷ [];
  parts = ap (λ (l : List Event). l ++ e ∷ []) h.parts ∙ append_assoc h.before (Begin (task t) h.number env ∷ h.since) (e ∷ []);
  once = list_any-push_no (begins_turn t) h.since e none ∙ h.once;
  is_env = h.is_env;
}

begun_keeps : (script : ScriptView) (log : List Event) (e : Event) → begins e ≡ false → AllBegun script log → AllBegun script (log ++ e ∷ [])
begun_keeps script log e none all t env is = elim (cases_eq (task_of e) t) [
  | inl same ↦
      let life = life_of-push_same t log e same in
      let was = was_begun e (life_of t log).stage (life_of t log).given env none (sym (ap (λ (l : Life). l.stage) life) ∙ is) in
      more_begun script log e t env (life_of t (log ++ e ∷ [])).given (begins_none t e none) (sym was.1 ∙ sym (ap (λ (l : Life). l.given) life)) (all t env was.0)
  | inr other ↦
      let life = life_of-push_other t log e other in
      more_begun script log e t env (life_of t (log ++ e ∷ [])).given (begins_none t e none) (sym (ap (λ (l : Life). l.given) life)) (all t env (sym (ap (λ (l : Life). l.stage) life) ∙ is))
]

abbrev env_in : Env → Option JobStage → Env
env_in d (Some (stage.Begun env)) = env
env_in d _ = d

number_of : (g : Option LastJob) (n : ℕ) → HasNumber g n → IfSome g (λ x. x.number ≡ n)
number_of None n has = tt
number_of (Some g) n has = has

begin_keeps : (script : ScriptView) (log : List Event) (t n : ℕ) (env : Env) → HasNumber (life_of t log).given n → IsEnv (root_count script) (task t) log env → AllBegun script log → AllBegun script (log ++ Begin (task t) n env ∷ [])
begin_keeps script log t n env has is all u env' now =
    let e : Event = Begin (task t) n env in
    elim (cases_eq t u) [
      | inl same ↦
          let life = life_of-push_same u log e same in
          let stage : Some (stage.Begun env) ≡ Some (stage.Begun env') = sym (ap (λ (l : Life). l.stage) life) ∙ now in
          subst (λ (x : Env). HasBegun script (log ++ e ∷ []) (life_of u (log ++ e ∷ [])).given u x) (ap (env_in env) stage)
          (subst (λ (g : Option LastJob). HasBegun script (log ++ e ∷ []) g u env) (sym (ap (λ (l : Life). l.given) life))
          (subst (λ (k : ℕ). HasBegun script (log ++ e ∷ []) (life_of k log).given k env) same
          (record { number = n; is_number = number_of (life_of t log).given n has; before = log; since = []; parts = refl; once = refl; is_env = is })))
      | inr other ↦
          let life = life_of-push_other u log e other in
          more_begun script log e u env' (life_of u (log ++ e ∷ [])).given (ne_eqb t u other) (sym (ap (λ (l : Life). l.given) life)) (all u env' (sym (ap (λ (l : Life). l.stage) life) ∙ now))
    ]

none_begun : (script : ScriptView) → AllBegun script []
none_begun script t env is = absurd (false≢true (ap is_begun (sym (ap (λ (l : Life). l.stage) (unborn_without t [] refl)) ∙ is)))

pub all_begun : (script : ScriptView) (cps : List CheckpointView) (bs : List Block) → AllStand script cps [] bs → AllBegun script (after_blocks script (at_first script) bs).log
all_begun script cps bs all = keeps_blocks (AllBegun script) (begun_keeps script) script cps
    (λ before t n env stands is. begin_keeps script (after_blocks script (at_first script) before).log t n env (current_is (life_of t (after_blocks script (at_first script) before).log) n stands.0.resume stands.2).0 stands.3 is)
    [] bs all (none_begun script)

one_number : (g : Option LastJob) (n m : ℕ) → HasNumber g n → IfSome g (λ x. x.number ≡ m) → m ≡ n
one_number None n m has is = absurd has
one_number (Some g) n m has is = sym is ∙ has

pub begins_by : (script : ScriptView) (report : ReportView) (e i : ℕ) (r : RecordView) → IsLegal script report → IsRecord report e i r → BeginsIn script report.log r.task r.number r.env
begins_by script report e i r legal is =
    let cps = report.checkpoints in
    let s = at_record script report legal e i r is in
    let here = after_blocks script (at_first script) s.front in
    let turn = s.stands.stands in
    let b = all_begun script cps s.front s.all_front r.task r.env turn.has_begun in
    let number : b.number ≡ r.number = one_number (life_of r.task here.log).given r.number b.number (current_is (life_of r.task here.log) r.number s.stands.job.resume turn.current).0 b.is_number in
    let first = turn_extends script here e r.task r.number r.effects r.exit r.after s.stands.job r.env r.frame turn in
    let rest = log_grows script cps (s.front ++ ran e r ∷ []) s.back s.all_back.1 in
    let blocks : legal.blocks ≡ (s.front ++ ran e r ∷ []) ++ s.back = s.parts ∙ sym (append_assoc s.front (ran e r ∷ []) s.back) in
    let turned : (after_blocks script (at_first script) (s.front ++ ran e r ∷ [])).log ≡ (here.log ++ Apply (task r.task) r.number ∷ []) ++ first.0 =
    ap (λ (z : Standing). z.log) (after_push script (at_first script) s.front (ran e r)) ∙ first.1 in
    let log : report.log ≡ ((here.log ++ Apply (task r.task) r.number ∷ []) ++ first.0) ++ rest.0 =
    legal.log ∙ ap (λ (bs : List Block). (after_blocks script (at_first script) bs).log) blocks ∙ rest.1 ∙ ap (λ (l : List Event). l ++ rest.0) turned in
    let joined : report.log ≡ here.log ++ Apply (task r.task) r.number ∷ (first.0 ++ rest.0) =
    log ∙ append_assoc (here.log ++ Apply (task r.task) r.number ∷ []) first.0 rest.0 ∙ append_assoc here.log (Apply (task r.task) r.number ∷ []) (first.0 ++ rest.0) in
    let begun : here.log ≡ b.before ++ Begin (task r.task) r.number r.env ∷ b.since = b.parts ∙ ap (λ (k : ℕ). b.before ++ Begin (task r.task) k r.env ∷ b.since) number in
    record {
      before = b.before;
      between = b.since;
      after = first.0 ++ rest.0;
      parts = joined ∙ ap (λ (l : List Event). l ++ Apply (task r.task) r.number ∷ (first.0 ++ rest.0)) begun ∙ append_assoc b.before (Begin (task r.task) r.number r.env ∷ b.since) (Apply (task r.task) r.number ∷ (first.0 ++ rest.0));
      once = b.once;
      is_env = b.is_env;
    }
