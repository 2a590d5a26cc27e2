-- A search that takes silent turns alone has the outcome of each report.
use Rattle.swift_reordering.proofs.Prelude.{◌≡◌, ◌⊎◌, ℕ, ℤ, List, [], ◌∷◌, ◌++◌, length, sym, ◌∙◌, ap, subst, true, inl, inr, append-nil, arith, Bool, refl, is_some, slice_get, Contains, AllByRecursion, cons_option, slice_get_cases, ScriptView, root_count, executor_invariants, ExitView, all_hold, CheckpointView, RecordView, Event, tasks_of, Ending, is_under_way, Block, added, begun, ran, folded, at_first, after_blocks, checkpoint_at, folded_in, folded_of, AllStand, ReportView, IsLegal, IsOrderlyLegal, ActorsHaveExecutors, AreCounted, unbegun, all_keep, first_counted, LeadAlike, IsNotFolded, IsOutcome, FoldsNone, StartsFresh, state_of, Made, NoneFolded, made, none_in, not_folded, outcome_too, lead_on, all_push, stage_at, IsFused, RoomNeverBinds, no_env, done_in, done_by, MayStep, HasExit, AreClosedSilently, InvariantsStart, ClosedSilentlyHasEachOutcome, ClosedSilentlyHasEachExit}
use Rattle.swift_reordering.proofs.Priorities.{cons_cases, cons_here, cons_more, none_there}
use Rattle.swift_events.specs.declared.life.Origin.{Origin}
use Rattle.swift_laws.proofs.OpenReports.{any_sound}
use Rattle.swift_reordering.proofs.Walks.{IsCourse}
use Rattle.swift_reordering.proofs.Reports.{each_fused}
use Rattle.swift_reordering.proofs.SilentWalk.{IsFinished, GoesToEnd, StepKept, StepsSilently, other_end, walk}

-- at the end of a report no turn is under way
pub finished : (script : ScriptView) (report : ReportView) (legal : IsLegal script report) → IsFinished script report.checkpoints legal.blocks
finished script report legal t =
    let log = (after_blocks script (at_first script) legal.blocks).log in
    elim (slice_get_cases report.endings t).1 [
      | inl one ↦
          let ended = (legal.endings t one.0 one.2).1 in
          let rests = (any_sound script report report.log legal ([], sym (append-nil report.log))).rests t (ap is_some ended) in
          ap (λ (l : List Event). is_under_way (stage_at l t)) (sym legal.log) ∙ ap is_under_way rests.1
      | inr none ↦
          let counted : AreCounted (root_count script) log _ = all_keep script report.checkpoints [] legal.blocks legal.stand (first_counted script) in
          let far = none.0 in
          let tasks = legal.tasks in
          let same = ap (tasks_of (root_count script)) legal.log in
          unbegun (counted.each t) (counted.beyond t (omega (arith, far, tasks, same)))
    ]

plain_all : (script : ScriptView) (on : ActorsHaveExecutors script) (cps : List CheckpointView) (bs before : List Block) → AllStand script cps [] before → AllStand script cps before bs → NoneFolded script on cps bs → AllByRecursion IsNotFolded bs
plain_all script on cps [] before stood stand none = tt
plain_all script on cps (b ∷ bs) before stood stand none = (
  not_folded script on cps before b bs stood stand.0 none,
  plain_all script on cps bs (before ++ b ∷ []) (all_push script cps before [] b stood stand.0) stand.1 (λ e low. (none_in script on cps (folded_in e b) (folded_of e bs) (none e low)).1),
)

-- turns of blocks, and what blocks do

done_has : (bs : List Block) (e : ℕ) (r : RecordView) → Contains bs (ran e r) → Contains (done_by bs) (ran e (record r { env = no_env }))
done_has [] e r has = absurd (none_there (ran e r) has)
done_has (b ∷ bs) e r has = elim (cons_cases b bs (ran e r) has) [
  | inl here ↦ subst (λ (x : Block). Contains (done_by (x ∷ bs)) (ran e (record r { env = no_env }))) (sym here) (cons_here (ran e (record r { env = no_env })) (done_by bs) _ refl)
  | inr more ↦ past_one b (done_by bs) (ran e (record r { env = no_env })) (done_has bs e r more)
] where
  past_one : (b : Block) (ds : List Block) (x : Block) → Contains ds x → Contains (cons_option (done_in b) ds) x
  past_one (added r) ds x has = cons_more (added r) ds x has
  past_one (begun t n env) ds x has = has
  past_one (ran e r) ds x has = cons_more (ran e (record r { env = no_env })) ds x has
  past_one (folded e f) ds x has = cons_more (folded e f) ds x has

done_back : (bs : List Block) (e : ℕ) (r : RecordView) → Contains (done_by bs) (ran e r) → HasExit bs e r.exit
done_back [] e r has = absurd (none_there (ran e r) has)
done_back (begun t n env ∷ bs) e r has = (let x = done_back bs e r has in record { turn = x.turn; there = cons_more (begun t n env) bs (ran e x.turn) x.there; exit_is = x.exit_is })
done_back (added y ∷ bs) e r has = elim (cons_cases (added y) (done_by bs) (ran e r) has) [
  | inl here ↦ absurd (cc here)
  | inr more ↦ (let x = done_back bs e r more in record { turn = x.turn; there = cons_more (added y) bs (ran e x.turn) x.there; exit_is = x.exit_is })
]
done_back (folded y z ∷ bs) e r has = elim (cons_cases (folded y z) (done_by bs) (ran e r) has) [
  | inl here ↦ absurd (cc here)
  | inr more ↦ (let x = done_back bs e r more in record { turn = x.turn; there = cons_more (folded y z) bs (ran e x.turn) x.there; exit_is = x.exit_is })
]
done_back (ran k q ∷ bs) e r has = elim (cons_cases (ran k (record q { env = no_env })) (done_by bs) (ran e r) has) [
  | inl here ↦
      let seat : k ≡ e = cc here in
      let turn : record q { env = no_env } ≡ r = cc here in
      record { turn = q; there = cons_here (ran k q) bs (ran e q) (ap (λ (y : ℕ). ran y q) seat); exit_is = ap (λ (y : RecordView). y.exit) turn }
  | inr more ↦ (let x = done_back bs e r more in record { turn = x.turn; there = cons_more (ran k q) bs (ran e x.turn) x.there; exit_is = x.exit_is })
]

module _ (script : ScriptView) (tried : ℕ → ExitView → Bool) (histories : List (List Block)) (report : ReportView) (on : ActorsHaveExecutors script) (closed : AreClosedSilently script tried histories) (hold : InvariantsStart script report)
    (legal : IsLegal script report) (fresh : StartsFresh script report.checkpoints) where
  abbrev cps : List CheckpointView
  cps = report.checkpoints

  abbrev Kept : List Block → Type 0
  Kept h = Contains histories h

  abbrev Tried : ℕ → ExitView → Type 0
  Tried e exit = tried e exit ≡ true

  course : (h : List Block) → Kept h → IsCourse script cps h
  course h has = record { stand = closed.stand cps h fresh has; orderly = closed.orderly h has }

  next : (h : List Block) → Kept h → ((step : List Block) → MayStep script cps h step → StepKept script cps Kept Tried h step) ⊎ StepsSilently script cps Kept Tried h
  next h has = elim (closed.next cps h fresh has) [
    | inl steps ↦ inl (λ step may. (let k = steps step may in record { kept = k.kept; is_kept = k.is_kept; lead = k.lead; tried = k.ends }))
    | inr x ↦ inr (record { t = x.t; n = x.n; env = x.env; e = x.e; r = x.r; silent = x.silent; may = x.orderly; away = x.away; kept = x.kept; is_kept = x.is_kept; lead = x.lead; tried = x.ends })
  ]

  -- from the first history on
  record Reached : Type 0 where
    kept : List Block
    is_kept : Kept kept
    lead : LeadAlike script cps legal.blocks kept
    ends : (e : ℕ) (r : RecordView) → Contains legal.blocks (ran e r) → Tried e r.exit

  reached : GoesToEnd script cps [] legal.blocks → Reached
  reached goes =
      let first = closed.first cps fresh in
      let o = other_end script cps [] first.0 legal.blocks tt (course first.0 first.1).stand first.2 goes in
      let end = walk script cps on hold Kept Tried course next (length o.others) o.others first.0 (omega arith) first.1 o.goes in
      record {
        kept = end.kept;
        is_kept = end.is_kept;
        lead = lead_on script cps legal.blocks (first.0 ++ o.others) end.kept o.lead end.lead;
        ends = λ e r has. (let x = o.exits e r has in subst (Tried e) x.exit_is (end.tried e x.turn x.there));
      }

module _ (script : ScriptView) (tried : ℕ → ExitView → Bool) (histories : List (List Block)) (report : ReportView) (on : ActorsHaveExecutors script) (closed : AreClosedSilently script tried histories) (hold : InvariantsStart script report)
    (orderly : IsOrderlyLegal script report) (folds : FoldsNone report) (room : RoomNeverBinds script report) where
  abbrev f : IsFused script report orderly
  f = each_fused script report orderly on folds room

  abbrev m : Made script f.other f.legal.legal
  m = made script f.other f.legal.legal f.folds

  goes : GoesToEnd script f.other.checkpoints [] f.legal.legal.blocks
  goes =
      let legal = f.legal.legal in
      record {
        stand = legal.stand;
        may = f.legal.orderly;
        late = f.late;
        plain = plain_all script on f.other.checkpoints legal.blocks [] tt legal.stand m.none;
        finished = finished script f.other legal;
      }

  hold_other : InvariantsStart script f.other
  hold_other = subst (λ (cs : List CheckpointView). (e : ℕ) → all_hold (executor_invariants script e) (checkpoint_at cs e).fields ≡ true) (sym f.checkpoints) hold

  end : Reached script tried histories f.other on closed hold_other f.legal.legal m.fresh
  end = reached script tried histories f.other on closed hold_other f.legal.legal m.fresh goes

  outcome : IsOutcome script (state_of script report.checkpoints end.kept) report
  outcome =
      let is : IsOutcome script (state_of script f.other.checkpoints end.kept) f.other = outcome_too script f.other.checkpoints f.other f.legal.legal.blocks end.kept end.lead m.outcome in
      let same : IsOutcome script (state_of script report.checkpoints end.kept) f.other = subst (λ (cs : List CheckpointView). IsOutcome script (state_of script cs end.kept) f.other) f.checkpoints is in
      record {
        tasks = sym (ap length f.endings) ∙ same.tasks;
        endings = λ t y at. same.endings t y (ap (λ (es : List (Origin × Ending)). slice_get es t) f.endings ∙ at);
        fields = λ e g at. same.fields e g (ap (λ (fs : List (List (List ℤ))). slice_get fs e) f.fields ∙ at);
      }

  exits : (e : ℕ) (r : RecordView) → Contains orderly.legal.blocks (ran e r) → tried e r.exit ≡ true
  exits e r has =
      let there = done_has orderly.legal.blocks e r has in
      let back = done_back f.legal.legal.blocks e (record r { env = no_env }) (subst (λ (bs : List Block). Contains bs (ran e (record r { env = no_env }))) f.done there) in
      subst (λ (x : ExitView). tried e x ≡ true) back.exit_is (end.ends e back.turn back.there)

pub silently_closed : ClosedSilentlyHasEachOutcome
silently_closed script tried histories report on closed hold orderly folds room =
    let k = end script tried histories report on closed hold orderly folds room in
    (k.kept, k.is_kept, outcome script tried histories report on closed hold orderly folds room)

pub silently_exits : ClosedSilentlyHasEachExit
silently_exits script tried histories report on closed hold orderly folds room e r has = exits script tried histories report on closed hold orderly folds room e r has
