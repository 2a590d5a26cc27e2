-- A turn that is played before it begins.
use Rattle.swift_executor.proofs.Prelude.{◌≡◌, ℕ, ◌≤◌, Bool, true, false, if◌then◌else◌, nat_lt, Option, Some, None, IfSome, List, [], ◌∷◌, ◌++◌, refl, ap, sym, subst, ◌∙◌, arith, same_Some, IsPermutation-refl, All-permutation, All-cons, All-head, All-tail, All-weaker, All, IsPermutation, Env, TaskId, Event, ScriptView, BodyView, JobFacts, job_facts, BookKnown, under_way, has_last_root, executor_kind, facts_of, BookLockView, BookSeatView, BeginsTicket, AreHigher, ComesFirst, ReadyJob, level_at, ready_job, GoesTogether, IsOfBook, IsSeatFor, KeepsOrder, orders_of, records_in, Chooses, ChosenStageView, ChosenView, ExecStateView, HasChosen, Plays, PutsBack, before_turn, begun, picked, played, takes_by_arrival, TakenView, taken_of, BeginsIn, HasBegun, HasStayed, RunsTurn, rank, priority_of, Afresh, AppliesThere, BeginsElse, BeginsThere, ChoosesAhead, IsBegun, IsCurrent, IsPicked, IsPlayedIn, PlaysAhead, begun_as, CommitsChosen, RunsAhead, StaysWhole, Result, Ok, Err, IfOk, IfErr, IfNone, ExecFault, FindsNone, GoesOn, IsRefused}
use Rattle.swift_executor.specs.declared.committing.Ahead.{Ahead}
use Rattle.swift_executor.specs.declared.committing.Ahead.TheVariants as ahead
use Rattle.std.proofs.lemmas.Bool.Decides.{nat_tests}
use Rattle.swift_events.specs.Room.{IsEnv}
use Rattle.swift_events.specs.declared.event.Event.TheVariants.{Begin}
use Rattle.swift_executor.specs.Ready.{urgency}
use Rattle.swift_script.specs.Scripts.{root_count}
use Rattle.swift_executor.proofs.AccountKept.{chose_ahead, put_back}
use Rattle.swift_executor.proofs.SeatKept.{ahead_knows, back_knows, began_knows, orders_applied, orders_begun, records_begun}
use Rattle.swift_executor.proofs.Visits.{at_rest_of, begun_in_order, only_back, only_both, only_by}
use Rattle.swift_executor.proofs.VisitSteps.{Done, begins_one, finishes_one, ran_on, stays_so, stays_with}

-- A choice by the levels that were given before is one by those of a log by which they are current.

same_higher : (a b : ℕ) → b ≤ a → a ≡ (if nat_lt a b then b else a)
same_higher a b le = grind (arith, nat_tests, le)

pub chooses_by : (log : List Event) (old new : ExecStateView) (task : TaskId) → ChoosesAhead old new task → IsCurrent log old.ready.levels task → Chooses log old new task
chooses_by log old new task h (given, are, most, made) =
    let levels : new.ready.levels ≡ old.ready.levels = ap (λ (s : ExecStateView). s.ready.levels) h.same in
    record {
      job = h.job;
      arrival = h.arrival;
      picks = record {
        given = given;
        levels = are;
        higher = subst (λ (ls : List ℕ). AreHigher old.ready.levels given ls) (sym levels) (λ t. same_higher (level_at old.ready.levels t) (level_at given t) (most t));
        first = subst (λ (ls : List ℕ). All (ComesFirst (takes_by_arrival (executor_kind old.script old.executor)) ls (ready_job h.job h.arrival)) old.ready.front) (sym levels) h.first;
      };
      task_is = h.task_is;
      known = made;
      rest = h.rest;
      same = h.same ∙ ap (λ (ls : List ℕ). record old { ready = record old.ready { front = new.ready.front; levels = ls }; chosen = Some (record { job = h.job; arrival = h.arrival; stage = picked }) }) (sym levels);
    }

-- which job comes first depends on its task and its number alone
comes_same : (by : Bool) (levels : List ℕ) (x x' y y' : ReadyJob BodyView) → x'.job.task ≡ x.job.task → x'.arrival ≡ x.arrival → y'.job.task ≡ y.job.task → y'.arrival ≡ y.arrival → ComesFirst by levels x y → ComesFirst by levels x' y'
comes_same true levels x x' y y' tx ax ty ay le = omega (arith, ax, ay, le)
comes_same false levels x x' y y' tx ax ty ay first =
    let ux : urgency levels x' ≡ urgency levels x = ap (λ (t : TaskId). rank (priority_of (level_at levels t))) tx in
    let uy : urgency levels y' ≡ urgency levels y = ap (λ (t : TaskId). rank (priority_of (level_at levels t))) ty in
    let more = first.0 in
    (omega (arith, ux, uy, more), λ e. (let le = first.1 (sym uy ∙ e ∙ ux) in omega (arith, le, ax, ay)))

-- It is still the first where it was put back as it was.
back_first : (by : Bool) (levels : List ℕ) (x x' : ReadyJob BodyView) (front others : List (ReadyJob BodyView)) → x'.job.task ≡ x.job.task → x'.arrival ≡ x.arrival → IsPermutation front (x ∷ others)
    → All (ComesFirst by levels x) front → All (ComesFirst by levels x') (x' ∷ others)
back_first by levels x x' front others task arrival perm first =
    let all = All-permutation (ComesFirst by levels x) front (x ∷ others) perm first in
    let one = All-head (ComesFirst by levels x) x others all in
    All-cons (ComesFirst by levels x') x' others (comes_same by levels x x' x x' task arrival task arrival one)
    (All-weaker (ComesFirst by levels x) (ComesFirst by levels x') (λ y is. comes_same by levels x x' y y task arrival refl refl is) others (All-tail (ComesFirst by levels x) x others all))

-- how a turn was played, on which worker and in which environment
abbrev env_in : Env → ChosenStageView → Env
env_in other (begun worker env) = env
env_in other _ = other

-- the turn of another job that is seen the same has begun there
seen_there : (script script' : ScriptView) (levels levels' : List ℕ) (knows mid : BookKnown) (c c' : ChosenView) (env : Env) (was is : Bool) → script ≡ script' → levels ≡ levels' → c'.job.task ≡ c.job.task
    → before_turn c'.stage c'.job ≡ before_turn c.stage c.job → BeginsThere script levels knows c' env mid was is → BeginsThere script' levels' knows c env mid was is
seen_there script script' levels levels' knows mid c c' env was is same_script same_levels task seen x =
    let log = x.book.log in
    record {
      book = x.book;
      script_is = x.script_is ∙ same_script;
      run = x.run;
      front = x.front;
      current = subst (λ (u : TaskId). IsCurrent log levels' u) task (subst (λ (ls : List ℕ). IsCurrent log ls c'.job.task) same_levels x.current);
      given = subst (λ (u : TaskId). IsEnv (root_count x.book.script) u log env) task x.given;
      ticket = subst (λ (f : JobFacts). BeginsTicket log (has_last_root x.book.script log) f env knows mid) seen x.ticket;
      order = x.order;
    }

-- A job was chosen ahead.
module _ (r : TakenView) (t : GoesTogether r) (free : r.state.chosen ≡ None) (task : TaskId) (s : ExecStateView) (ch : ChoosesAhead r.state s task) where
  abbrev chosen_first : ChosenView
  chosen_first = record { job = ch.job; arrival = ch.arrival; stage = picked }

  -- it is ready again, and no turn has begun
  pub stays_ahead : (new : ExecStateView) (is_orderly : Bool) → HasChosen s (PutsBack s new) → (is_orderly ≡ true → r.is_orderly ≡ true) → Done (HasStayed r) (taken_of new r.taker r.seat is_orderly)
  stays_ahead new is_orderly puts order =
      let jobs = only_both r.state s new (only_by r.state s _ _ ch.same) (only_back s new puts) in
      let none = ap (λ (x : ExecStateView). x.chosen) puts.2.same in
      let taken = put_back r.taker.taken s new (chose_ahead r.taker.taken task r.state s t.is_of.1 free ch) puts in
      let known = back_knows s new r.seat (ahead_knows task r.state s r.seat t.is_of.2 free ch) puts in
      stays_with r new r.seat is_orderly t refl refl jobs none taken known (λ e. at_rest_of r t free (order e))

  -- its turn was to be played, and there was no memory
  pub unplayed : (worker : ℕ) (env : Env) (c : ChosenView) (new : ExecStateView) → s.chosen ≡ Some c → c.stage ≡ picked → HasChosen (begun_as s c worker env) (PutsBack (begun_as s c worker env) new) → HasChosen s (PutsBack s new)
  unplayed worker env c new at was (c1, is, h) =
      let same : c1 ≡ record c { stage = begun worker env } = sym (same_Some (record c { stage = begun worker env }) c1 is) in
      let back : PutsBack (begun_as s c worker env) new (record c { stage = begun worker env }) = subst (PutsBack (begun_as s c worker env) new) same h in
      (c, at, record { job = back.job; same_job = back.same_job ∙ sym (ap (λ (st : ChosenStageView). before_turn st c.job) was); front = back.front; same = back.same })

  -- Its turn has begun in a book.
  module _ (worker : ℕ) (c : ChosenView) (at : s.chosen ≡ Some c) (was : c.stage ≡ picked) (b : BookLockView) (of : IsOfBook b r) (env : Env) (mid : BookSeatView) (is_orderly : Bool)
      (begins : BeginsThere r.state.script r.state.ready.levels r.seat.knows c env mid.knows r.is_orderly is_orderly) (same_lock : (mid.lock ≡ r.seat.lock) × (mid.here ≡ r.seat.here)) where
    abbrev log : List Event
    log = begins.book.log

    abbrev there : Bool
    there = has_last_root begins.book.script begins.book.log

    is_task : c.job.task ≡ task
    is_task = ap (λ (x : ChosenView). x.job.task) (sym (same_Some chosen_first c (sym (ap (λ (x : ExecStateView). x.chosen) ch.same) ∙ at))) ∙ ch.task_is

    ticket : BeginsTicket log there (job_facts c.job) env r.seat.knows mid.knows
    ticket = subst (λ (st : ChosenStageView). BeginsTicket log there (before_turn st c.job) env r.seat.knows mid.knows) was begins.ticket

    orderly : KeepsOrder is_orderly under_way mid
    orderly e =
        let o = begins.order e in
        ap (λ (v : BookKnown). orders_of v) ticket.4 ∙ orders_begun log there r.seat.knows.accounts ∙ begun_in_order there (orders_of r.seat.knows) o.1 (at_rest_of r t free o.0)

    records_same : records_in mid.knows ≡ records_in r.seat.knows
    records_same = ap (λ (v : BookKnown). records_in v) ticket.4 ∙ records_begun log there r.seat.knows.accounts

    begins_in : BeginsIn begins.book worker s (begun_as s c worker env)
    begins_in = record {
      begun = begun_as s c worker env;
      begins = record {
        book_after = record begins.book { log = log ++ Begin c.job.task c.job.number env ∷ [] };
        turn = (c, at, record { was = was; env = env; given = begins.given; book_is = refl; same = refl });
      };
      given = refl;
    }

    known_begun : IsSeatFor (begun_as s c worker env) mid
    known_begun = began_knows s c log there worker env r.seat mid (ahead_knows task r.state s r.seat t.is_of.2 free ch) at was ticket begins.front same_lock.1

    has_begun : Done (HasBegun worker task r) (taken_of (begun_as s c worker env) r.taker mid is_orderly)
    has_begun =
        begins_one b r t free of (record { lock = b.id; knows = r.seat.knows; taken = Some (facts_of begins.book) }) begins.book refl begins.run worker task s (begun_as s c worker env) mid is_orderly
        (chooses_by log r.state s task ch (subst (λ (u : TaskId). IsCurrent log r.state.ready.levels u) is_task begins.current)) begins_in (same_lock.0 ∙ of.0) records_same known_begun orderly

-- Its turn was played then.
module _ (r : TakenView) (t : GoesTogether r) (free : r.state.chosen ≡ None) (task : TaskId) (s : ExecStateView) (ch : ChoosesAhead r.state s task) (worker : ℕ) (c : ChosenView) (pl : ExecStateView) (a : PlaysAhead s worker c pl) where
  abbrev h : Plays (begun_as s c worker a.env) pl (record c { stage = begun worker a.env })
  h = a.plays

  abbrev played_as : ChosenView
  played_as = record { job = h.job; arrival = c.arrival; stage = played h.worker h.env h.frame h.fields h.effects h.exit }

  same_env : a.env ≡ h.env
  same_env = ap (env_in a.env) h.was

  played_is : (c' : ChosenView) → pl.chosen ≡ Some c' → c' ≡ played_as
  played_is c' at = sym (same_Some played_as c' (sym (ap (λ (x : ExecStateView). x.chosen) h.same) ∙ at))

  -- the facts of the job before its turn
  before_is : (c' : ChosenView) → pl.chosen ≡ Some c' → before_turn c'.stage c'.job ≡ job_facts c.job
  before_is c' at = ap (λ (x : ChosenView). before_turn x.stage x.job) (played_is c' at) ∙ h.same_job

  before_chosen : before_turn c.stage c.job ≡ job_facts c.job
  before_chosen = ap (λ (st : ChosenStageView). before_turn st c.job) a.stage

  task_played : (c' : ChosenView) → pl.chosen ≡ Some c' → c'.job.task ≡ c.job.task
  task_played c' at = ap (λ (x : ChosenView). x.job.task) (played_is c' at) ∙ ap (λ (f : JobFacts). record { 0 = f.task }) h.same_job

  levels_are : pl.ready.levels ≡ r.state.ready.levels
  levels_are = ap (λ (x : ExecStateView). x.ready.levels) h.same ∙ ap (λ (x : ExecStateView). x.ready.levels) ch.same

  script_stays : pl.script ≡ r.state.script
  script_stays = ap (λ (x : ExecStateView). x.script) h.same ∙ ap (λ (x : ExecStateView). x.script) ch.same

  task_chosen : c.job.task ≡ task
  task_chosen =
      ap (λ (x : ChosenView). x.job.task) (sym (same_Some (record { job = ch.job; arrival = ch.arrival; stage = picked }) c (sym (ap (λ (x : ExecStateView). x.chosen) ch.same) ∙ a.at))) ∙ ch.task_is

  -- ready again after its turn, it is ready again
  pub back_played : (c' : ChosenView) (new : ExecStateView) → pl.chosen ≡ Some c' → PutsBack pl new c' → HasChosen s (PutsBack s new)
  back_played c' new at puts =
      let b1 : PutsBack pl new played_as = subst (PutsBack pl new) (played_is c' at) puts in
      let b2 : PutsBack (record s { chosen = Some played_as }) new played_as = subst (λ (x : ExecStateView). PutsBack x new played_as) h.same b1 in
      (c, a.at, record { job = b2.job; same_job = b2.same_job ∙ h.same_job ∙ sym before_chosen; front = b2.front; same = b2.same })

  -- it has begun as it was played, and is journalled
  pub runs_ahead : (b : BookLockView) (of : IsOfBook b r) (c' : ChosenView) (at : pl.chosen ≡ Some c') (task' : TaskId) (jobs jobs' : List JobFacts) (seat' : BookSeatView) (is_orderly : Bool) (new : ExecStateView)
      → AppliesThere worker task' jobs jobs' r.seat seat' r.is_orderly is_orderly pl new c' → Done (Afresh (RunsTurn worker task' jobs jobs') r) (taken_of new r.taker seat' is_orderly)
  runs_ahead b of c' at task' jobs jobs' seat' is_orderly new x =
      let in_env : h.env ≡ x.env = subst (IsPlayedIn x.env) (ap (λ (y : ChosenView). y.stage) (played_is c' at)) x.was in
      let same : x.env ≡ a.env = sym in_env ∙ sym same_env in
      let first : BeginsThere r.state.script r.state.ready.levels r.seat.knows c x.env x.mid.knows r.is_orderly is_orderly =
      seen_there pl.script r.state.script pl.ready.levels r.state.ready.levels r.seat.knows x.mid.knows c c' x.env r.is_orderly is_orderly script_stays levels_are (task_played c' at) (before_is c' at ∙ sym before_chosen) x.begins
      in
      let begins = subst (λ (e : Env). BeginsThere r.state.script r.state.ready.levels r.seat.knows c e x.mid.knows r.is_orderly is_orderly) same first in
      let d = has_begun r t free task s ch worker c a.at a.stage b of a.env x.mid is_orderly begins x.same_lock in
      let mine = taken_of (begun_as s c worker a.env) r.taker x.mid is_orderly in
      let f =
      finishes_one mine d.together (record c { stage = begun worker a.env }, refl, tt) jobs jobs' pl new seat' (record c { stage = begun worker a.env }, refl, h) x.ends x.known x.record_is
      (ap (λ (y : BookSeatView). orders_of y.knows) x.record_is.2 ∙ orders_applied x.record_is.0 x.mid.knows.accounts)
      in
      let is_task : task ≡ task' = sym (x.task_is ∙ task_played c' at ∙ task_chosen) in
      subst (λ (u : TaskId). Done (Afresh (RunsTurn worker u jobs jobs') r) (taken_of new r.taker seat' is_orderly)) is_task
      (record { together = f.together; does = record { ready = r; whole = record { stays = stays_so r free; is_of = λ x. x }; does = record { begun = mine; begins = d.does; finishes = f.does } } })

  -- it has begun in another environment, or the book did not take it
  pub begins_else : (b : BookLockView) (of : IsOfBook b r) (c' : ChosenView) (at : pl.chosen ≡ Some c') (task' : TaskId) (seat' : BookSeatView) (is_orderly : Bool) (new : ExecStateView)
      → BeginsElse worker task' r.seat seat' r.is_orderly is_orderly pl new c' → Done (Afresh (HasBegun worker task') r) (taken_of new r.taker seat' is_orderly)
  begins_else b of c' at task' seat' is_orderly new x =
      let own = ready_job x.job c.arrival in
      let back : ExecStateView = record s { ready = record s.ready { front = own ∷ s.ready.front }; chosen = None } in
      let facts : job_facts x.job ≡ job_facts c.job = x.same_job ∙ before_is c' at in
      let same_task : x.job.task ≡ c.job.task = ap (λ (f : JobFacts). record { 0 = f.task }) facts in
      let first : c ≡ record { job = ch.job; arrival = ch.arrival; stage = picked } = sym (same_Some (record { job = ch.job; arrival = ch.arrival; stage = picked }) c (sym (ap (λ (y : ExecStateView). y.chosen) ch.same) ∙ a.at)) in
      let puts : HasChosen s (PutsBack s back) = (c, a.at, record { job = x.job; same_job = facts ∙ sym before_chosen; front = IsPermutation-refl (own ∷ s.ready.front); same = refl }) in
      let d0 = stays_ahead r t free task s ch back r.is_orderly puts (λ e. e) in
      let r' = taken_of back r.taker r.seat r.is_orderly in
      let again : ChosenView = record { job = x.job; arrival = c.arrival; stage = picked } in
      let s' : ExecStateView = record s { chosen = Some again } in
      let by : ExecStateView → Bool = λ y. takes_by_arrival (executor_kind y.script y.executor) in
      let here : All (ComesFirst (by r.state) r.state.ready.levels own) (own ∷ s.ready.front) =
      back_first (by r.state) r.state.ready.levels (ready_job ch.job ch.arrival) own r.state.ready.front s.ready.front (same_task ∙ ap (λ (y : ChosenView). y.job.task) first) (ap (λ (y : ChosenView). y.arrival) first) ch.rest ch.first
      in
      let there : All (ComesFirst (by s) s.ready.levels own) (own ∷ s.ready.front) =
      subst (λ (ls : List ℕ). All (ComesFirst (by s) ls own) (own ∷ s.ready.front)) (sym (ap (λ (y : ExecStateView). y.ready.levels) ch.same))
      (subst (λ (w : Bool). All (ComesFirst w r.state.ready.levels own) (own ∷ s.ready.front)) (sym (ap by ch.same)) here)
      in
      let ch' : ChoosesAhead back s' task = record { job = x.job; arrival = c.arrival; first = there; task_is = same_task ∙ task_chosen; rest = IsPermutation-refl (own ∷ s.ready.front); same = refl } in
      let of' : IsOfBook b r' = (of.0, of.1 ∙ sym (ap (λ (y : ExecStateView). y.script) ch.same)) in
      let begins =
      seen_there pl.script back.script pl.ready.levels back.ready.levels r.seat.knows seat'.knows again c' x.env r.is_orderly is_orderly (ap (λ (y : ExecStateView). y.script) h.same) (ap (λ (y : ExecStateView). y.ready.levels) h.same)
      (task_played c' at ∙ sym same_task) (sym x.same_job) x.begins
      in
      let d = has_begun r' d0.together refl task s' ch' worker again refl refl b of' x.env seat' is_orderly begins x.same_lock in
      let arrival : c'.arrival ≡ c.arrival = ap (λ (y : ChosenView). y.arrival) (played_is c' at) in
      let new_is : begun_as s' again worker x.env ≡ new =
      sym (x.new_is ∙ ap (λ (y : ExecStateView). record y { chosen = Some (record { job = x.job; arrival = c'.arrival; stage = begun worker x.env }) }) h.same
      ∙ ap (λ (n : ℕ). record s { chosen = Some (record { job = x.job; arrival = n; stage = begun worker x.env }) }) arrival)
      in
      let is_task : task ≡ task' = sym (x.task_is ∙ task_played c' at ∙ task_chosen) in
      subst (λ (u : TaskId). Done (Afresh (HasBegun worker u) r) (taken_of new r.taker seat' is_orderly)) is_task
      (subst (λ (y : ExecStateView). Done (Afresh (HasBegun worker task) r) (taken_of y r.taker seat' is_orderly)) new_is
      (record { together = d.together; does = record { ready = r'; whole = record { stays = d0.does; is_of = λ x. d0.together.is_of }; does = d.does } }))

  -- what was done, by the answer
  pub ran_ahead : (b : BookLockView) (of : IsOfBook b r) (c' : ChosenView) (at : pl.chosen ≡ Some c') (jobs jobs' : List JobFacts) (seat' : BookSeatView) (is_orderly : Bool) (new : ExecStateView) (answer : Ahead)
      → CommitsChosen worker jobs jobs' r.seat seat' r.is_orderly is_orderly pl new answer c' → Done (λ (x : TakenView). RunsAhead worker jobs jobs' r x answer) (taken_of new r.taker seat' is_orderly)
  ran_ahead b of c' at jobs jobs' seat' is_orderly new (ahead.Applied task') x = runs_ahead b of c' at task' jobs jobs' seat' is_orderly new x
  ran_ahead b of c' at jobs jobs' seat' is_orderly new (ahead.Begun task') x = begins_else b of c' at task' seat' is_orderly new x
  ran_ahead b of c' at jobs jobs' seat' is_orderly new ahead.Not x =
      let d = stays_ahead r t free task s ch new is_orderly (back_played c' new at x.back) x.order in
      subst (λ (y : BookSeatView). Done (StaysWhole r) (taken_of new r.taker y is_orderly)) (sym x.same) (record { together = d.together; does = record { stays = d.does; is_of = λ y. d.together.is_of } })

-- a job was picked
pub picks : (old new : ExecStateView) (task : TaskId) → ChoosesAhead old new task → HasChosen new (λ c. IsPicked c.stage)
picks old new task ch = (record { job = ch.job; arrival = ch.arrival; stage = picked }, ap (λ (x : ExecStateView). x.chosen) ch.same, tt)

-- its turn is taken as one that has begun
pub begins_as : (old : ExecStateView) (worker : ℕ) (new : ExecStateView) → HasChosen old (λ c. (env : Env) × (new ≡ begun_as old c worker env)) → HasChosen new (λ c. IsBegun c.stage)
begins_as old worker new (c, at, (env, is)) = (record c { stage = begun worker env }, ap (λ (x : ExecStateView). x.chosen) is, tt)

-- what was picked has not begun
pub picked_stage : (old new : ExecStateView) (task : TaskId) (c : ChosenView) → ChoosesAhead old new task → new.chosen ≡ Some c → c.stage ≡ picked
picked_stage old new task c ch at =
    ap (λ (x : ChosenView). x.stage) (sym (same_Some (record { job = ch.job; arrival = ch.arrival; stage = picked }) c (sym (ap (λ (y : ExecStateView). y.chosen) ch.same) ∙ at)))

-- a turn that was played as one that has begun was played ahead
pub plays_ahead : (worker : ℕ) (s : ExecStateView) (c : ChosenView) (env : Env) (pl : ExecStateView) → s.chosen ≡ Some c → c.stage ≡ picked → HasChosen (begun_as s c worker env) (Plays (begun_as s c worker env) pl) → PlaysAhead s worker c pl
plays_ahead worker s c env pl at was (c1, is, h) = record {
  env = env;
  at = at;
  stage = was;
  plays = subst (λ (x : ChosenView). Plays (begun_as s c worker env) pl x) (sym (same_Some (record c { stage = begun worker env }) c1 is)) h;
}

-- what was done after no turn was run
module _ (old mid new : TakenView) (w : StaysWhole old mid) where
  pub lift_runs : (r : Result (Option TaskId) ExecFault) (P : TaskId → TakenView → TakenView → Type 0) → IfOk r (λ ran. IfSome ran (λ t. P t mid new)) → IfOk r (λ ran. IfSome ran (λ t. Afresh (P t) old new))
  lift_runs (Ok (Some t)) P h = record { ready = mid; whole = w; does = h }
  lift_runs (Ok None) P h = tt
  lift_runs (Err e) P h = tt

  pub lift_none : (r : Result (Option TaskId) ExecFault) (P : TakenView → TakenView → Type 0) → IfOk r (λ ran. IfNone ran (P mid new)) → IfOk r (λ ran. IfNone ran (Afresh P old new))
  lift_none (Ok (Some t)) P h = tt
  lift_none (Ok None) P h = record { ready = mid; whole = w; does = h }
  lift_none (Err e) P h = tt

  pub lift_err : (r : Result (Option TaskId) ExecFault) (P : ExecFault → TakenView → TakenView → Type 0) → IfErr r (λ e. P e mid new) → IfErr r (λ e. Afresh (P e) old new)
  lift_err (Ok ran) P h = tt
  lift_err (Err e) P h = record { ready = mid; whole = w; does = h }

-- the visit goes on with the state of the same executor
pub goes_run : (worker : ℕ) (task : TaskId) (jobs jobs' : List JobFacts) (old new : TakenView) → Afresh (RunsTurn worker task jobs jobs') old new → GoesOn old new
goes_run worker task jobs jobs' old new a = (let g = ran_on worker task jobs jobs' a.ready new a.does in (g.0 ∙ a.whole.stays.goes_on.0, g.1))

pub goes_none : (old new : TakenView) → Afresh FindsNone old new → GoesOn old new
goes_none old new a = (a.does.stays.goes_on.0 ∙ a.whole.stays.goes_on.0, a.does.stays.goes_on.1)

pub goes_refused : (worker : ℕ) (fault : ExecFault) (old new : TakenView) → Afresh (IsRefused worker fault) old new → GoesOn old new
goes_refused worker fault old new a = (a.does.stays.goes_on.0 ∙ a.whole.stays.goes_on.0, a.does.stays.goes_on.1)
