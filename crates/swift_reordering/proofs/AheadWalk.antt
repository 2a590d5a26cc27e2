-- A search that runs silent turns ahead, after each step, comes to each history with some turns of it ahead.
use Rattle.swift_reordering.proofs.Prelude.{◌≡◌, ◌⊎◌, ℕ, ◌≤◌, List, [], ◌∷◌, ◌++◌, refl, sym, ◌∙◌, ap, subst, subst₂, Bool, true, false, inl, inr, append_assoc, append-nil, arith, Contains, false≢true, Env, ScriptView, root_count, executor_invariants, ExitView, all_hold, RecordView, CheckpointView, tasks_of, is_begun, is_under_way, Block, added, begun, ran, Standing, at_first, after_blocks, checkpoint_at, folded_in, folded_of, Stands, AllStand, ReportView, AllAllowed, IsOrderly, IsOrderlyLegal, ActorsHaveExecutors, log_grows, tasks_grow, AreLike, LeadAlike, FoldsNone, IsNotFolded, IsOutcome, state_of, Made, NoneFolded, made, none_in, not_folded, outcome_too, same_tasks, all_push, turn_looks_away, stage_at, HasRoom, IsFusedStep, MayStep, OneTurn, after_turn, after_turns, AllRunSilently, LeadAsOne, AllEndAsTried, AreClosedAhead, ClosedAheadHasEachOutcome, ClosedAheadHasEachExit, InvariantsStart}
use Rattle.swift_reordering.proofs.Closed.{allowed_after, exit_too, outcome_near, same_away, stand_after}
use Rattle.swift_reordering.proofs.Fusing.{AnyTask, ArePutOff, GoesOn, any_task, goes_on}
use Rattle.swift_reordering.proofs.Near.{near_tasks}
use Rattle.swift_reordering.proofs.Priorities.{cons_cases, none_there}
use Rattle.swift_reordering.proofs.Reports.{none_put_off}
use Rattle.swift_reordering.proofs.RunAhead.{AllTried, EachOther, HasTask, NoTask, carry_same, find, first_job, like_on, other_add, other_begin, other_run, own_turn, pass_all, past_turns, run_more, same_back, same_on, tried_ends, tried_more, turns_more, turns_stand, turns_too}
use Rattle.swift_reordering.proofs.SilentEnds.{finished}
use Rattle.swift_reordering.proofs.Walks.{IsCourse, course_none, course_push}

-- a step is one after another history too, where the task that begins looks away there as it does here
fused_like : (script : ScriptView) (h k step rest : List Block) → AreLike script step rest
    → ((t n : ℕ) (env : Env) (bs : List Block) → step ≡ begun t n env ∷ bs → turn_looks_away script (after_blocks script (at_first script) k) t ≡ turn_looks_away script (after_blocks script (at_first script) h) t)
    → IsFusedStep script h step → IsFusedStep script k rest
fused_like script h k (added r ∷ []) (c ∷ []) like same is = subst (λ (x : Block). IsFusedStep script k (x ∷ [])) like.0 tt
fused_like script h k (ran e r ∷ []) (c ∷ []) like same is = subst (λ (x : Block). IsFusedStep script k (x ∷ [])) (sym like.0.2) tt
fused_like script h k (begun t n env ∷ []) (c ∷ []) like same is = subst (λ (x : Block). IsFusedStep script k (x ∷ [])) like.0 (same t n env [] refl ∙ is)
fused_like script h k (begun t n env ∷ ran e r ∷ []) (c ∷ d ∷ []) like same is =
    let both : IsFusedStep script k (begun t n env ∷ ran e (record r { frame = like.1.0.0 }) ∷ []) = (same t n env (ran e r ∷ []) refl ∙ is.0, is.1) in
    subst (λ (x : Block). IsFusedStep script k (x ∷ d ∷ [])) like.0 (subst (λ (x : Block). IsFusedStep script k (begun t n env ∷ x ∷ [])) (sym like.1.0.2) both)
fused_like script h k (added r ∷ []) [] like same is = absurd like
fused_like script h k (added r ∷ []) (c ∷ d ∷ cs) like same is = absurd like.1
fused_like script h k (begun t n env ∷ []) [] like same is = absurd like
fused_like script h k (begun t n env ∷ []) (c ∷ d ∷ cs) like same is = absurd like.1
fused_like script h k (ran e r ∷ []) [] like same is = absurd like
fused_like script h k (ran e r ∷ []) (c ∷ d ∷ cs) like same is = absurd like.1
fused_like script h k (begun t n env ∷ ran e r ∷ []) [] like same is = absurd like
fused_like script h k (begun t n env ∷ ran e r ∷ []) (c ∷ []) like same is = absurd like.1
fused_like script h k (begun t n env ∷ ran e r ∷ []) (c ∷ d ∷ x ∷ cs) like same is = absurd like.1.1
fused_like script h k step rest like same is = absurd is

module _ (script : ScriptView) (on : ActorsHaveExecutors script) (cps : List CheckpointView) (hold : (e : ℕ) → all_hold (executor_invariants script e) (checkpoint_at cps e).fields ≡ true)
    (Kept : List Block → Type 0) (Tried : ℕ → ExitView → Type 0) (stand : (h : List Block) → Kept h → AllStand script cps [] h) (room : (h : List Block) → Kept h → HasRoom script h) where
  abbrev at : List Block → Standing
  at bs = after_blocks script (at_first script) bs

  -- each turn of some blocks ends as one that was tried
  abbrev pub EndsTried : List Block → Type 0
  EndsTried bs = (e : ℕ) (r : RecordView) → Contains bs (ran e r) → Tried e r.exit

  -- A step and silent turns after it lead as a history that is kept, and were tried.
  pub record StepsAhead (h step : List Block) : Type 0 where
    pub turns : List OneTurn
    pub run : AllRunSilently script cps (h ++ step) turns
    pub kept : List Block
    pub is_kept : Kept kept
    pub lead : LeadAsOne script cps (after_turns (h ++ step) turns) kept
    pub ends : EndsTried step
    pub also : AllTried script cps hold Tried turns

  -- a history, and silent turns that have run ahead of it in one that is kept
  pub record HasAhead (h : List Block) : Type 0 where
    pub turns : List OneTurn
    pub run : AllRunSilently script cps h turns
    pub tried : AllTried script cps hold Tried turns
    pub kept : List Block
    pub is_kept : Kept kept
    pub lead : LeadAsOne script cps (after_turns h turns) kept

  -- as many tasks at most
  ahead_room : (h : List Block) → HasAhead h → AllStand script cps [] h → HasRoom script h
  ahead_room h one all =
      let many = same_tasks (at (after_turns h one.turns)).log (at one.kept).log one.lead.0.standing.digest (root_count script) in
      let few = room one.kept one.is_kept in
      let less = turns_tasks one.turns h all one.run in
      omega (arith, many, few, less)
    where
      one_less : (xs ys : List Block) → AllStand script cps xs ys → tasks_of (root_count script) (at xs).log ≤ tasks_of (root_count script) (at (xs ++ ys)).log
      one_less xs ys all =
          let grown = log_grows script cps xs ys all in
          let more = tasks_grow (root_count script) (at xs).log grown.0 in
          let same = ap (tasks_of (root_count script)) grown.1 in
          omega (arith, more, same)

      turns_tasks : (xs : List OneTurn) (g : List Block) → AllStand script cps [] g → AllRunSilently script cps g xs → tasks_of (root_count script) (at g).log ≤ tasks_of (root_count script) (at (after_turns g xs)).log
      turns_tasks [] g all run = omega arith
      turns_tasks (x ∷ xs) g all run =
          let silent = run.0.silent in
          let begin : List Block = g ++ begun x.task x.number x.env ∷ [] in
          let one = one_less g (begun x.task x.number x.env ∷ []) (silent.begins, tt) in
          let two = one_less begin (ran x.executor x.turn ∷ []) (silent.runs, tt) in
          let rest = turns_tasks xs (after_turn g x) (all_push script cps begin [] (ran x.executor x.turn) (all_push script cps g [] (begun x.task x.number x.env) all silent.begins) silent.runs) run.1 in
          omega (arith, one, two, rest)

  -- a step goes on after a history, and its turns were tried
  pub record NextAhead (h step : List Block) : Type 0 where
    pub one : HasAhead (h ++ step)
    pub ends : EndsTried step

  -- past the turns that have run ahead
  go_past : (h step : List Block) → ((k rest : List Block) → Kept k → AreLike script step rest → MayStep script cps k rest → StepsAhead k rest) → AllStand script cps [] h → (one : HasAhead h) → AllStand script cps h step → AllAllowed (IsOrderly script) h step → AllStand script cps [] (h ++ step) → IsFusedStep script h step → EachOther script cps hold one.turns step
      → ((t n : ℕ) (env : Env) (bs : List Block) → step ≡ begun t n env ∷ bs → NoTask t one.turns) → NextAhead h step
  go_past h step leads all one stands may both fused other none =
      let p = pass_all script cps hold step h one.turns all stands may one.run other in
      let far : List Block = after_turns h one.turns in
      let far_stand = turns_stand script cps one.turns h all one.run in
      let o = carry_same script cps p.rest far one.kept far_stand (stand one.kept one.is_kept) one.lead p.stand p.orderly in
      let like = like_on script cps step p.rest o.rest p.like o.like in
      let is = fused_like script h one.kept step o.rest like
      (λ t n env bs begins. sym (same_away script cps far one.kept one.lead.0 t) ∙ past_turns script cps hold t one.turns h all one.run (none t n env bs begins)) fused in
      let k = leads one.kept o.rest one.is_kept like (record { fused = is; stands = o.stand; orderly = o.orderly }) in
      let mine : List Block = after_turns (h ++ step) p.others in
      let mine_stand = turns_stand script cps p.others (h ++ step) both p.run in
      let kept_stand = stand_all one.kept o.rest (stand one.kept one.is_kept) o.stand in
      let same = same_on script cps mine (far ++ p.rest) (one.kept ++ o.rest) p.same o.same in
      let more = turns_too script cps k.turns (one.kept ++ o.rest) mine kept_stand mine_stand (same_back script cps mine (one.kept ++ o.rest) same) k.run in
      record {
        one = record {
          turns = p.others ++ more.others;
          run = run_more script cps p.others more.others (h ++ step) p.run more.run;
          tried = tried_more script cps hold Tried p.others more.others (tried_ends script cps hold Tried one.turns p.others p.ends one.tried) (tried_ends script cps hold Tried k.turns more.others more.ends k.also);
          kept = k.kept;
          is_kept = k.is_kept;
          lead = subst (λ (bs : List Block). LeadAsOne script cps bs k.kept) (sym (turns_more p.others more.others (h ++ step)))
              (same_on script cps (after_turns mine more.others) (after_turns (one.kept ++ o.rest) k.turns) k.kept (same_back script cps (after_turns (one.kept ++ o.rest) k.turns) (after_turns mine more.others) more.same) k.lead);
        };
        ends = λ e r has. (let x = exit_too script step o.rest e r like has in subst (Tried e) x.exit_is (k.ends e x.turn x.there));
      }
    where
      stand_all : (xs ys : List Block) → AllStand script cps [] xs → AllStand script cps xs ys → AllStand script cps [] (xs ++ ys)
      stand_all xs [] all more = subst (AllStand script cps []) (sym (append-nil xs)) all
      stand_all xs (y ∷ ys) all more = subst (AllStand script cps []) (append_assoc xs (y ∷ []) ys) (stand_all (xs ++ y ∷ []) ys (all_push script cps xs [] y all more.0) more.1)

  -- a turn that has begun runs
  pub go_run : (h : List Block) (e : ℕ) (r : RecordView) → ((k rest : List Block) → Kept k → AreLike script (ran e r ∷ []) rest → MayStep script cps k rest → StepsAhead k rest) → AllStand script cps [] h → HasAhead h
      → AllStand script cps h (ran e r ∷ []) → AllAllowed (IsOrderly script) h (ran e r ∷ []) → AllStand script cps [] (h ++ ran e r ∷ []) → NextAhead h (ran e r ∷ [])
  go_run h e r leads all one stands may both = elim (find r.task one.turns) [
    | inl has ↦
        let job = first_job script cps hold r.task one.turns h all one.run has in
        absurd (false≢true (sym (ap is_begun job.1) ∙ ap is_begun stands.0.stands.has_begun))
    | inr none ↦ go_past h (ran e r ∷ []) leads all one stands may both tt (other_run e r one.turns none script cps, tt) (λ t n env bs begins. absurd (cc begins))
  ]

  module _ (leads : (h step : List Block) → Kept h → MayStep script cps h step → StepsAhead h step) where
    -- the step is a turn that has run ahead
    go_own : (h : List Block) (t n : ℕ) (env : Env) (e : ℕ) (r : RecordView) → AllStand script cps [] h → (one : HasAhead h) → Stands script cps h (begun t n env) → Stands script cps (h ++ begun t n env ∷ []) (ran e r) → IsOrderly script h (begun t n env) → r.task ≡ t
        → HasTask t one.turns → NextAhead h (begun t n env ∷ ran e r ∷ [])
    go_own h t n env e r all one begins runs may own has =
        let step : List Block = begun t n env ∷ ran e r ∷ [] in
        let o = own_turn script cps hold Tried one.turns h t n env e r all one.run one.tried begins runs may own has in
        record {
          one = record { turns = o.others; run = o.run; tried = o.tried; kept = one.kept; is_kept = one.is_kept; lead = same_on script cps (after_turns (h ++ step) o.others) (after_turns h one.turns) one.kept o.same one.lead };
          ends = λ k q here. elim (cons_cases (begun t n env) (ran e r ∷ []) (ran k q) here) [
            | inl no_turn ↦ absurd (cc no_turn)
            | inr more ↦ elim (cons_cases (ran e r) [] (ran k q) more) [
              | inl is ↦ (let seat : e ≡ k = cc is in let turn : r ≡ q = cc is in subst₂ (λ (x : ℕ) (y : RecordView). Tried x y.exit) seat turn o.own)
              | inr none ↦ absurd (none_there (ran k q) none)
            ]
          ];
        }

    by_leads : (step k rest : List Block) → Kept k → AreLike script step rest → MayStep script cps k rest → StepsAhead k rest
    by_leads step k rest kept like may = leads k rest kept may

    pub go_on : (h step : List Block) → AllStand script cps [] h → HasAhead h → AllStand script cps h step → AllAllowed (IsOrderly script) h step → AllStand script cps [] (h ++ step) → IsFusedStep script h step → NextAhead h step
    go_on h (added u ∷ []) all one stands may both is = go_past h (added u ∷ []) (by_leads (added u ∷ [])) all one stands may both is (other_add u one.turns script cps, tt) (λ t n env bs begins. absurd (cc begins))
    go_on h (ran e r ∷ []) all one stands may both is = go_run h e r (by_leads (ran e r ∷ [])) all one stands may both
    go_on h (begun t n env ∷ []) all one stands may both is = elim (find t one.turns) [
      | inl has ↦ (let job = first_job script cps hold t one.turns h all one.run has in absurd (false≢true (sym is ∙ job.0)))
      | inr none ↦ go_past h (begun t n env ∷ []) (by_leads (begun t n env ∷ [])) all one stands may both is (other_begin t n env one.turns none script cps, tt) (λ u m other bs begins. subst (λ (v : ℕ). NoTask v one.turns) (begins_same begins) none)
    ] where
      begins_same : {u m : ℕ} {other : Env} {bs : List Block} → begun t n env ∷ [] ≡ begun u m other ∷ bs → t ≡ u
      begins_same is = cc is
    go_on h (begun t n env ∷ ran e r ∷ []) all one stands may both is = elim (find t one.turns) [
      | inl has ↦ go_own h t n env e r all one stands.0 stands.1.0 may.0 is.1 has
      | inr none ↦ go_past h (begun t n env ∷ ran e r ∷ []) (by_leads (begun t n env ∷ ran e r ∷ [])) all one stands may both is (other_begin t n env one.turns none script cps, (other_run e r one.turns (subst (λ (v : ℕ). NoTask v one.turns) (sym is.1) none) script cps, tt))
          (λ u m other bs begins. subst (λ (v : ℕ). NoTask v one.turns) (begins_same begins) none)
    ] where
      begins_same : {u m : ℕ} {other : Env} {bs : List Block} → begun t n env ∷ ran e r ∷ [] ≡ begun u m other ∷ bs → t ≡ u
      begins_same is = cc is
    go_on h step all one stands may both is = absurd is

    -- a history, one in which begins are put off, and silent turns ahead of that
    pub record HasOne (before : List Block) : Type 0 where
      pub others : List Block
      pub put_off : ArePutOff script cps AnyTask before others
      pub ahead : HasAhead others

    has_room : (before : List Block) → HasOne before → HasRoom script before
    has_room before one =
        let many = near_tasks (at before).log (at one.others).log one.put_off.close.near (root_count script) in
        let few = ahead_room one.others one.ahead one.put_off.course.stand in
        omega (arith, many, few)

    pub record Next (before : List Block) (b : Block) : Type 0 where
      pub one : HasOne (before ++ b ∷ [])
      pub tried : (e : ℕ) (r : RecordView) → b ≡ ran e r → Tried e r.exit

    next_by : (before : List Block) (b : Block) (one : HasOne before) → (g : GoesOn script cps AnyTask on any_task before one.others b) → (g.more ≡ []) ⊎ IsFusedStep script one.others g.more → Next before b
    next_by before b one g (inl none) = record {
      one = record { others = one.others ++ g.more; put_off = g.put_off; ahead = subst HasAhead (sym (append-nil one.others) ∙ ap (λ (xs : List Block). one.others ++ xs) (sym none)) one.ahead };
      tried = λ e r is. (let x = g.has e r is in absurd (none_there (ran e x.turn) (subst (λ (xs : List Block). Contains xs (ran e x.turn)) none x.there)));
    }
    next_by before b one g (inr step) =
        let more : List Block = g.more in
        let stands : AllStand script cps one.others more = stand_after script cps one.others [] more g.put_off.course.stand in
        let may : AllAllowed (IsOrderly script) one.others more = allowed_after (IsOrderly script) one.others [] more g.put_off.course.orderly in
        let next = go_on one.others more one.put_off.course.stand one.ahead stands may g.put_off.course.stand step in
        record {
          one = record { others = one.others ++ more; put_off = g.put_off; ahead = next.one };
          tried = λ e r is. (let x = g.has e r is in subst (Tried e) x.exit_is (next.ends e x.turn x.there));
        }

    has_next : (before : List Block) (b : Block) → IsCourse script cps before → IsNotFolded b → Stands script cps before b → IsOrderly script before b → HasOne before → Next before b
    has_next before b course unfolded stands orderly one =
        let g = goes_on script cps AnyTask on any_task before one.others b course (has_room before one) one.put_off unfolded stands orderly in
        next_by before b one g g.step

    pub record HasAll (before bs : List Block) : Type 0 where
      pub one : HasOne (before ++ bs)
      pub tried : (e : ℕ) (r : RecordView) → Contains bs (ran e r) → Tried e r.exit

    pub has_all : (bs before : List Block) → IsCourse script cps before → AllStand script cps before bs → AllAllowed (IsOrderly script) before bs → NoneFolded script on cps bs → HasOne before → HasAll before bs
    has_all [] before course stands may none one = record { one = subst HasOne (sym (append-nil before)) one; tried = λ e r has. absurd (none_there (ran e r) has) }
    has_all (b ∷ bs) before course stands may none one =
        let next = has_next before b course (not_folded script on cps before b bs course.stand stands.0 none) stands.0 may.0 one in
        let rest = has_all bs (before ++ b ∷ []) (course_push script cps before b course stands.0 may.0) stands.1 may.1 (λ e low. (none_in script on cps (folded_in e b) (folded_of e bs) (none e low)).1) next.one in
        record {
          one = subst HasOne (append_assoc before (b ∷ []) bs) rest.one;
          tried = λ e r has. elim (cons_cases b bs (ran e r) has) [ inl here ↦ next.tried e r here | inr later ↦ rest.tried e r later ];
        }

    pub first_one : (k : List Block) → Kept k → LeadAsOne script cps [] k → HasOne []
    first_one k is_kept lead = record { others = []; put_off = none_put_off script cps on; ahead = record { turns = []; run = tt; tried = tt; kept = k; is_kept = is_kept; lead = lead } }

    -- where no turn is under way, none has run ahead
    pub all_done : (before : List Block) (one : HasOne before) → ((t : ℕ) → is_under_way (stage_at (at before).log t) ≡ false) → LeadAlike script cps one.others one.ahead.kept
    all_done before one done = by_turns one.ahead.turns one.ahead.run one.ahead.lead where
      by_turns : (xs : List OneTurn) → AllRunSilently script cps one.others xs → LeadAsOne script cps (after_turns one.others xs) one.ahead.kept → LeadAlike script cps one.others one.ahead.kept
      by_turns [] run lead = lead.0
      by_turns (x ∷ xs) run lead =
          let given = run.0.silent.given in
          absurd (false≢true (sym (done x.task) ∙ elim (one.put_off.stages x.task) [ inl same ↦ ap is_under_way (same ∙ given) | inr off ↦ ap is_under_way off.has_begun ]))

-- so a list that is closed has the outcome of each report

module _ (script : ScriptView) (tried : ℕ → ExitView → Bool) (histories : List (List Block)) (report : ReportView) (on : ActorsHaveExecutors script) (closed : AreClosedAhead script tried histories) (hold : InvariantsStart script report)
    (orderly : IsOrderlyLegal script report) (folds : FoldsNone report) where
  is_made : Made script report orderly.legal
  is_made = made script report orderly.legal folds

  abbrev cps : List CheckpointView
  cps = report.checkpoints

  abbrev Kept : List Block → Type 0
  Kept h = Contains histories h

  abbrev Tried : ℕ → ExitView → Type 0
  Tried e exit = tried e exit ≡ true

  stand : (h : List Block) → Kept h → AllStand script cps [] h
  stand h has = closed.stand cps h is_made.fresh has

  turns_tried : (xs : List OneTurn) → AllEndAsTried tried xs → AllTried script cps hold Tried xs
  turns_tried [] all = tt
  turns_tried (x ∷ xs) all = (all.0, turns_tried xs all.1)

  leads : (h step : List Block) → Kept h → MayStep script cps h step → StepsAhead script on cps hold Kept Tried stand closed.room h step
  leads h step has may =
      let k = closed.next cps h step is_made.fresh has may in
      record { turns = k.turns; run = k.silent; kept = k.kept; is_kept = k.is_kept; lead = k.lead; ends = k.ends; also = turns_tried k.turns k.also }

  all_of : HasAll script on cps hold Kept Tried stand closed.room leads [] orderly.legal.blocks
  all_of =
      let k = closed.first cps is_made.fresh in
      has_all script on cps hold Kept Tried stand closed.room leads orderly.legal.blocks [] (course_none script cps) orderly.legal.stand orderly.orderly is_made.none (first_one script on cps hold Kept Tried stand closed.room leads k.0 k.1 k.2)

  outcome_of : (h : List Block) × Contains histories h × IsOutcome script (state_of script cps h) report
  outcome_of =
      let one = all_of.one in
      let lead = all_done script on cps hold Kept Tried stand closed.room leads orderly.legal.blocks one (finished script report orderly.legal) in
      (one.ahead.kept, one.ahead.is_kept, outcome_too script cps report one.others one.ahead.kept lead (outcome_near script cps report orderly.legal.blocks one.others one.put_off is_made.outcome))

pub closed_ahead : ClosedAheadHasEachOutcome
closed_ahead script tried histories report on closed hold orderly folds = outcome_of script tried histories report on closed hold orderly folds

pub closed_ahead_exits : ClosedAheadHasEachExit
closed_ahead_exits script tried histories report on closed hold orderly folds e r has = (all_of script tried histories report on closed hold orderly folds).tried e r has
