-- A turn that was played before it has begun, when it is committed.
use Rattle.swift_executor.proofs.Prelude.{◌≡◌, ℕ, ◌≤◌, ℤ, Bool, true, false, Option, Some, None, IfSome, List, [], ◌++◌, map, get_or, refl, ap, sym, subst, ◌∙◌, append-nil, same_Some, All, All-cons, All-nil, Env, TaskId, Event, AreLevels, HaveStayed, ScriptView, effect_views, frame_view, exit_view, EffectView, ExitView, JobView, BodyView, RecordView, JobFacts, job_facts, Account, BookKnown, Ticket, with_turn_begun, has_last_root, LawfulGrows, BookView, BookLockView, BookSeatView, BeginsTicket, HasTicket, after_turn, knowing, newest, AreAtMost, ReadyJobsView, Applied, WritesRecord, refusal_of_left, HaveSeen, IsSeatFor, ChosenStageView, ChosenView, ExecInvariant, ExecStateView, IsChosen, IsPlayed, Journals, Plays, before_turn, begun, picked, played, record_at, record_by, record_of, refusal_to_apply, chosen_of, chosen_view, stage_of, FieldsAre, CheckpointView, PlayedTurn, Chosen, ChosenStage, Picked, Begun, Played, AppliesThere, BeginsElse, BeginsThere, CommitsHere, HasAhead, IsPlayedIn, IsThere, RewindsJob, StageIs, begun_as}
use Rattle.swift_course.specs.Course.{IsFront}
use Rattle.swift_course.specs.Steps.{knowing_begin}
use Rattle.swift_shared_book.specs.Calls.{IsPlayed as IsPlayedBy}
use Rattle.swift_shared_book.specs.Commits.{BeginsAhead, CommitsTo, CommitsTurn, HasPlayedAhead, OnlyBegins, ahead_of, book_begun}
use Rattle.swift_shared_book.specs.declared.commits.Committed.TheVariants as committed
use Rattle.std.proofs.Common.{IsSomeAnd}
use Rattle.swift_shared_book.specs.Shared.{HasPlayed}
use Rattle.swift_shared_book.specs.declared.commits.Committed.{Committed}
use Rattle.swift_executor.specs.PlayingInside.{HasJob}
use Rattle.swift_tasks.specs.Books.{IsEndOf}
use Rattle.swift_tasks.specs.Refusals.{refusal_of_apply}
use Rattle.swift_executor.proofs.SeatKept.{began_knows, picked_has_ticket, played_knows, stayed_counted}
use Rattle.swift_executor.proofs.SeatTurns.{allowed_at, applied as seat_applied, newest_is, written}
use Rattle.swift_executor.proofs.StateKept.{belongs_back, same_task, stage_keeps}

-- The seat as it would be, had the turn begun.
module _ (worker : ℕ) (seat : BookSeatView) (s : ExecStateView) (a : HasAhead worker seat s) where
  abbrev from_state : ExecStateView
  from_state = a.was

  abbrev c0 : ChosenView
  c0 = a.chosen

  -- what its account has seen of the log, it has seen
  saw_own : HaveSeen a.known.account.seen seat.knows
  saw_own =
      let own : Account = record { executor = from_state.executor; records = a.known.account.past ++ from_state.journal; order = a.known.account.order; seen = a.known.account.seen } in
      subst (λ (xs : List Account). All (λ (x : Account). IsFront x.seen a.known.account.seen) xs) (sym a.known.account.accounts)
      (All-cons (λ (x : Account). IsFront x.seen a.known.account.seen) own [] ([], sym (append-nil a.known.account.seen)) (All-nil (λ (x : Account). IsFront x.seen a.known.account.seen)))

  -- where its turn has begun in a book, the seat is that of the executor as it is once the turn is played
  known_played : (log : List Event) (there : Bool) (mid : BookSeatView) → HaveSeen log seat.knows → BeginsTicket log there (job_facts c0.job) a.plays.env seat.knows mid.knows → mid.here ≡ seat.here → IsSeatFor s mid
  known_played log there mid saw ticket here =
      played_knows (begun_as from_state c0 worker a.plays.env) s mid (began_knows from_state c0 log there worker a.plays.env seat mid a.known a.plays.at a.plays.stage ticket saw here)
      (record c0 { stage = begun worker a.plays.env }, refl, a.plays.plays)

  has_ticket : HasTicket (job_facts c0.job) seat.knows.tickets
  has_ticket = picked_has_ticket from_state seat c0 a.known a.plays.at a.plays.stage

  abbrev as_begun : BookSeatView
  as_begun = record seat { knows = knowing_begin a.known.account.seen false has_ticket.0 has_ticket.1 a.plays.env seat.knows }

  known_begun : IsSeatFor s as_begun
  known_begun = known_played a.known.account.seen false as_begun saw_own (has_ticket.0, has_ticket.1, has_ticket.2, has_ticket.3, refl) refl

  -- so what was played by that seat was played ahead by this one
  ahead_by : (script : ScriptView) (j : JobView BodyView) (r : RecordView) → HasPlayed script as_begun.knows j r → HasPlayedAhead script seat.knows j r
  ahead_by script j r q =
      let own : Account = record { executor = from_state.executor; records = a.known.account.past ++ from_state.journal; order = a.known.account.order; seen = a.known.account.seen } in
      let k : Ticket = record has_ticket.0 { begun = Some a.plays.env } in
      let first : k ≡ q.ticket = ap (λ (ks : List Ticket). get_or ks 0 k) q.tickets in
      let mine : with_turn_begun a.known.account.seen false own ≡ q.account = ap (λ (xs : List Account). get_or xs 0 own) (sym (ap (map (with_turn_begun a.known.account.seen false)) a.known.account.accounts) ∙ q.accounts) in
      let p : IsPlayedBy script (with_turn_begun a.known.account.seen false own) k j r = subst (λ (x : Account). IsPlayedBy script x k j r) (sym mine) (subst (λ (x : Ticket). IsPlayedBy script q.account x j r) (sym first) q.plays) in
      record {
        account = own;
        accounts = a.known.account.accounts;
        ticket = (has_ticket.0, has_ticket.1, has_ticket.2, p.was);
        plays = record {
          was = refl;
          begun = refl;
          task_is = p.task_is;
          number_is = p.number_is;
          resume_is = p.resume_is;
          outer_is = p.outer_is;
          fields = p.fields;
          frame = p.frame;
          on = p.on;
          lawful = p.lawful;
        };
      }

-- the environment of its record is that in which it was played
record_env : (p : PlayedTurn) (stage : ChosenStage) (job : JobView BodyView) (r : RecordView) → IsPlayed (stage_of p stage) → record_at job (stage_of p stage) ≡ Some r → StageIs r.env stage
record_env p Picked job r was is = absurd was
record_env p (Begun worker env) job r was is = absurd was
record_env p (Played worker env) job r was is = sym (ap (λ (x : RecordView). x.env) (same_Some (record_by job worker env (frame_view p.frame) (effect_views p.effects.items) (exit_view p.exit)) r is))

-- what the book has to know of the turn before it begins
pub record IsWrittenAhead (script : ScriptView) (p : PlayedTurn) (stage : ChosenStage) (seat : BookSeatView) (job : JobView BodyView) (journal : List RecordView) : Type 0 where
  pub r : RecordView
  pub newest_is : newest journal ≡ Some r
  pub exit : r.exit ≡ exit_view p.exit
  pub effects : r.effects ≡ effect_views p.effects.items
  pub env : StageIs r.env stage
  pub plays : HasPlayedAhead script seat.knows job r

pub written_ahead : (worker : ℕ) (s : ExecStateView) (p : PlayedTurn) (arrival : ℕ) (stage : ChosenStage) (job : JobView BodyView) (j1 : List RecordView) (seat : BookSeatView) (script : ScriptView)
    → ExecInvariant s → s.chosen ≡ Some (chosen_view p arrival stage job) → IsPlayed (stage_of p stage) → WritesRecord p stage job s.journal j1 → HasAhead worker seat s → script ≡ s.script → IsWrittenAhead script p stage seat job j1
written_ahead worker s p arrival stage job j1 seat script is at was wrote a of_script =
    let w = written s p arrival stage job j1 (as_begun worker seat s a) script is at was wrote (known_begun worker seat s a) of_script in
    record {
      r = w.r;
      newest_is = w.newest_is;
      exit = w.exit;
      effects = w.effects;
      env = record_env p stage job w.r was (sym (newest_is p stage job s.journal j1 was wrote) ∙ w.newest_is);
      plays = ahead_by worker seat s a script job w.r w.plays;
    }

-- the levels of a book are no greater than those that were given, where none has changed since
pub stayed_ahead : (worker : ℕ) (s : ExecStateView) (seat : BookSeatView) → HasAhead worker seat s → (b : BookView) → HaveSeen b.log seat.knows → (n : ℕ) (given : List ℕ) → HaveStayed b.log n → AreLevels b.log given → n ≤ s.ready.counted → AreAtMost given s.ready.levels
stayed_ahead worker s seat a b saw n given stayed are le =
    let ready : s.ready ≡ a.was.ready = ap (λ (x : ExecStateView). x.ready) a.plays.plays.same in
    subst (λ (r : ReadyJobsView BodyView). AreAtMost given r.levels) (sym ready) (stayed_counted a.was seat b.log n given a.known saw stayed are (subst (λ (r : ReadyJobsView BodyView). n ≤ r.counted) ready le))

-- what was played of a job, by its record
ahead_is : (p : PlayedTurn) (stage : ChosenStage) (job : JobView BodyView) (r : RecordView) → IsPlayed (stage_of p stage) → record_at job (stage_of p stage) ≡ Some r → ahead_of job r ≡ before_turn (stage_of p stage) job
ahead_is p Picked job r was is = absurd was
ahead_is p (Begun worker env) job r was is = absurd was
ahead_is p (Played worker env) job r was is = ap (ahead_of job) (sym (same_Some (record_by job worker env (frame_view p.frame) (effect_views p.effects.items) (exit_view p.exit)) r is))

played_env : (p : PlayedTurn) (stage : ChosenStage) (job : JobView BodyView) (r : RecordView) → IsPlayed (stage_of p stage) → record_at job (stage_of p stage) ≡ Some r → IsPlayedIn r.env (stage_of p stage)
played_env p Picked job r was is = absurd was
played_env p (Begun worker env) job r was is = absurd was
played_env p (Played worker env) job r was is = ap (λ (x : RecordView). x.env) (same_Some (record_by job worker env (frame_view p.frame) (effect_views p.effects.items) (exit_view p.exit)) r is)

record_seen : (p : PlayedTurn) (arrival : ℕ) (stage : ChosenStage) (job : JobView BodyView) (s : ExecStateView) → s.chosen ≡ Some (chosen_view p arrival stage job) → record_of s.chosen ≡ record_at job (stage_of p stage)
record_seen p arrival stage job s at = ap record_of at

abbrev env_in : Env → ChosenStageView → Env
env_in other (begun worker env) = env
env_in other _ = other

abbrev worker_in : ChosenStageView → ℕ
worker_in (begun worker env) = worker
worker_in (played worker env frame fields effects exit) = worker
worker_in picked = 0

-- a turn was taken back, and has begun: the job is as it was when it was chosen
pub record Rewound (worker : ℕ) (s : ExecStateView) (arrival : ℕ) (stage : ChosenStage) (old : JobView BodyView) (p : PlayedTurn) (env : Env) (new : ExecStateView) : Type 0 where
  pub job : JobView BodyView
  pub same_job : job_facts job ≡ before_turn (stage_of p stage) old
  pub keeps : ExecInvariant new
  pub is : new ≡ record s { chosen = Some (record { job = job; arrival = arrival; stage = begun worker env }) }

pub same_seat : (x y : BookSeatView) → x.lock ≡ y.lock → x.here ≡ y.here → x.knows ≡ y.knows → x ≡ y
same_seat x y lock here knows =
    ap (λ l. record { lock = l; here = x.here; knows = x.knows }) lock ∙ ap (λ (h : Bool). record { lock = y.lock; here = h; knows = x.knows }) here ∙ ap (λ (k : BookKnown). record { lock = y.lock; here = y.here; knows = k }) knows

-- The turn of the job in its place was played ahead, and its record was written.
module _ (worker : ℕ) (seat : BookSeatView) (s : ExecStateView) (a : HasAhead worker seat s) (p : PlayedTurn) (arrival : ℕ) (stage : ChosenStage) (job : JobView BodyView) (j1 : List RecordView)
    (at : s.chosen ≡ Some (chosen_view p arrival stage job)) (was_played : IsPlayed (stage_of p stage)) (wrote : WritesRecord p stage job s.journal j1) (r : RecordView) (one : newest j1 ≡ Some r) where
  abbrev h : Plays (begun_as a.was a.chosen worker a.plays.env) s (record a.chosen { stage = begun worker a.plays.env })
  h = a.plays.plays

  seen_is : chosen_view p arrival stage job ≡ record { job = h.job; arrival = a.chosen.arrival; stage = played h.worker h.env h.frame h.fields h.effects h.exit }
  seen_is =
      sym (same_Some (record { job = h.job; arrival = a.chosen.arrival; stage = played h.worker h.env h.frame h.fields h.effects h.exit }) (chosen_view p arrival stage job) (sym (ap (λ (x : ExecStateView). x.chosen) h.same) ∙ at))

  facts_are : before_turn (stage_of p stage) job ≡ job_facts a.chosen.job
  facts_are = ap (λ (x : ChosenView). before_turn x.stage x.job) seen_is ∙ h.same_job

  wrote_is : record_at job (stage_of p stage) ≡ Some r
  wrote_is = sym (newest_is p stage job s.journal j1 was_played wrote) ∙ one

  own_env : IsPlayedIn r.env (stage_of p stage)
  own_env = played_env p stage job r was_played wrote_is

  env_is : a.plays.env ≡ r.env
  env_is = ap (env_in a.plays.env) h.was ∙ subst (IsPlayedIn r.env) (ap (λ (x : ChosenView). x.stage) seen_is) own_env

  before_is : ahead_of job r ≡ before_turn (stage_of p stage) job
  before_is = ahead_is p stage job r was_played wrote_is

  -- it has begun in a book
  pub begins_there : (l : BookLockView) (bk : BookView) (env : Env) (mid : BookKnown) (wo io : Bool) → IsThere l s.ready.levels job seat.knows wo io bk → l.script ≡ s.script → BeginsAhead bk job r env seat.knows mid
      → BeginsThere s.script s.ready.levels seat.knows (chosen_view p arrival stage job) env mid wo io
  begins_there l bk env mid wo io there script begins = record {
    book = bk;
    script_is = there.script_is ∙ script;
    run = there.run;
    front = there.front;
    current = there.current;
    given = begins.given;
    ticket = subst (λ (f : JobFacts). BeginsTicket bk.log (has_last_root bk.script bk.log) f env seat.knows mid) before_is begins.ticket;
    order = there.order;
  }

  -- and is journalled
  pub applied_so : (bk : BookView) (jobs jobs' : List JobFacts) (w : BookKnown) → r.exit ≡ exit_view p.exit → r.effects ≡ effect_views p.effects.items → (c : CommitsTurn bk job r jobs jobs' seat.knows w)
      → Applied (book_begun bk job r.env) c.after job (effect_views p.effects.items) (exit_view p.exit) jobs jobs'
  applied_so bk jobs jobs' w exit effects c = record {
    script_is = c.script_is;
    ends = subst (λ (x : ExitView). IsEndOf (book_begun bk job r.env) jobs job (effect_views p.effects.items) x c.after.log c.after.held jobs') exit
        (subst (λ (es : List EffectView). IsEndOf (book_begun bk job r.env) jobs job es r.exit c.after.log c.after.held jobs') effects c.ends);
  }

  pub applies_there : (l : BookLockView) (bk : BookView) (jobs jobs' : List JobFacts) (w : BookKnown) (wo io : Bool) (seat' : BookSeatView) (new : ExecStateView) (task : TaskId)
      → ((script : ScriptView) (fields : List (List ℤ)) (rs : List RecordView) (r : RecordView) → LawfulGrows script fields rs r) → ExecInvariant s → r.exit ≡ exit_view p.exit → r.effects ≡ effect_views p.effects.items
      → IsThere l s.ready.levels job seat.knows wo io bk → l.script ≡ s.script → (c : CommitsTurn bk job r jobs jobs' seat.knows w) → seat'.lock ≡ seat.lock → seat'.here ≡ seat.here → seat'.knows ≡ w
      → Journals (book_begun bk job r.env) c.after jobs jobs' s new (chosen_view p arrival stage job) → task ≡ job.task
      → AppliesThere worker task jobs jobs' seat seat' wo io s new (chosen_view p arrival stage job)
  applies_there l bk jobs jobs' w wo io seat' new task grows inv exit effects there script c lock here knows journals of_task =
      let mid : BookSeatView = record seat { knows = c.begun } in
      let book = book_begun bk job r.env in
      let begins = begins_there l bk r.env c.begun wo io there script c.begins in
      let ticket = subst (λ (f : JobFacts). BeginsTicket bk.log (has_last_root bk.script bk.log) f r.env seat.knows c.begun) (before_is ∙ facts_are) c.begins.ticket in
      let known : IsSeatFor s mid = known_played worker seat s a bk.log (has_last_root bk.script bk.log) mid there.front (subst (λ (e : Env). BeginsTicket bk.log (has_last_root bk.script bk.log) (job_facts a.chosen.job) e seat.knows c.begun) (sym env_is) ticket) refl in
      let same : seat' ≡ knowing (after_turn r c.begun) mid = same_seat seat' (knowing (after_turn r c.begun) mid) lock here (knows ∙ c.knows) in
      let allowed : refusal_of_left book job p ≡ None =
      subst (λ (es : List EffectView). refusal_of_apply book.script book.log job es (exit_view p.exit) ≡ None) effects (subst (λ (x : ExitView). refusal_of_apply book.script book.log job r.effects x ≡ None) exit c.allowed)
      in
      record {
        env = r.env;
        was = own_env;
        mid = mid;
        same_lock = (refl, refl);
        begins = begins;
        ends = record {
          book = book;
          book_after = c.after;
          book_of = there.script_is ∙ script;
          run = c.run;
          allowed = ap (refusal_to_apply book) at ∙ allowed_at book p stage job allowed;
          turn = (chosen_view p arrival stage job, at, journals);
        };
        record_is = (r, record_seen p arrival stage job s at ∙ wrote_is, same);
        known = seat_applied s new p arrival stage job j1 mid seat' r book c.after jobs jobs' grows inv at was_played wrote known journals one same;
        task_is = of_task;
      }

  -- it has begun, and was taken back
  pub begins_else : (l : BookLockView) (bk : BookView) (env : Env) (w : BookKnown) (wo io : Bool) (seat' : BookSeatView) (new : ExecStateView) (task : TaskId) (job' : JobView BodyView)
      → IsThere l s.ready.levels job seat.knows wo io bk → l.script ≡ s.script → OnlyBegins bk job r env seat.knows w → seat'.lock ≡ seat.lock → seat'.here ≡ seat.here → seat'.knows ≡ w
      → job_facts job' ≡ before_turn (stage_of p stage) job → new ≡ record s { chosen = Some (record { job = job'; arrival = arrival; stage = begun worker env }) } → task ≡ job.task
      → BeginsElse worker task seat seat' wo io s new (chosen_view p arrival stage job)
  begins_else l bk env w wo io seat' new task job' there script c lock here knows seen is of_task = record {
    env = env;
    same_lock = (lock, here);
    begins = begins_there l bk env seat'.knows wo io there script (subst (BeginsAhead bk job r env seat.knows) (sym knows) c.begins);
    job = job';
    same_job = seen;
    new_is = is;
    task_is = of_task;
  }

  -- the worker that has played it is the one that commits it
  worker_is : (w : ℕ) (e : Env) → stage ≡ Played w e → worker ≡ w
  worker_is w e is = ap worker_in h.was ∙ sym (ap (λ (x : ChosenView). worker_in x.stage) seen_is) ∙ ap (λ (st : ChosenStage). worker_in (stage_of p st)) is

  -- what is left of the state once it was taken back
  pub rewound : (ch ch1 ch2 : Chosen) (p' : PlayedTurn) (env : Env) (j' : List RecordView) (cp : CheckpointView) → ch.stage ≡ stage → ch.arrival ≡ arrival → ch.job ≡ Some job → ch1 ≡ record ch { job = ch1.job } → ch1.job ≡ ch.job
      → HasJob ch1.job (RewindsJob ch1 ch2 p env) → p'.fields ≡ p.fields → s.fields ≡ p.fields.before → ExecInvariant s → j' ≡ s.journal → cp ≡ s.checkpoint
      → Rewound worker s arrival stage job p env (record s { chosen = chosen_of p' ch2; journal = j'; checkpoint = cp; fields = p'.fields.before })
  rewound ch ch1 ch2 p' env j' cp of_stage of_arrival here rest place back fields own inv journal check =
      let c1 : ch1 ≡ ch = rest ∙ ap (λ (o : Option (JobView BodyView)). record ch { job = o }) place in
      let the_job : back.0 ≡ job = same_Some back.0 job (sym back.1 ∙ place ∙ here) in
      let b1 : RewindsJob ch1 ch2 p env job = subst (RewindsJob ch1 ch2 p env) the_job back.2 in
      let b : RewindsJob ch ch2 p env job = subst (λ (x : Chosen). RewindsJob x ch2 p env job) c1 b1 in
      let mine = worker_is b.worker b.before (sym of_stage ∙ b.was) in
      let seen : job_facts b.job ≡ before_turn (stage_of p stage) job = b.same_job ∙ ap (λ (st : ChosenStage). before_turn (stage_of p st) job) of_stage in
      let chosen : ChosenView = record { job = b.job; arrival = arrival; stage = begun worker env } in
      let chosen_is : chosen_of p' ch2 ≡ Some chosen =
      ap (chosen_of p') b.new_is ∙ ap (λ (n : ℕ). Some (record { job = b.job; arrival = n; stage = begun b.worker env })) of_arrival ∙ ap (λ (w : ℕ). Some (record { job = b.job; arrival = arrival; stage = begun w env })) (sym mine)
      in
      let is : record s { chosen = chosen_of p' ch2; journal = j'; checkpoint = cp; fields = p'.fields.before } ≡ record s { chosen = Some chosen } =
      ap (λ (o : Option ChosenView). record s { chosen = o; journal = j'; checkpoint = cp; fields = p'.fields.before }) chosen_is
      ∙ ap (λ (j : List RecordView). record s { chosen = Some chosen; journal = j; checkpoint = cp; fields = p'.fields.before }) journal
      ∙ ap (λ (v : CheckpointView). record s { chosen = Some chosen; checkpoint = v; fields = p'.fields.before }) check
      ∙ ap (λ (f : FieldsAre). record s { chosen = Some chosen; fields = f.before }) fields
      ∙ ap (λ (rows : List (List ℤ)). record s { chosen = Some chosen; fields = rows }) (sym own)
      in
      let c = chosen_view p arrival stage job in
      let was_chosen : IsChosen s c = subst (λ (o : Option ChosenView). IfSome o (IsChosen s)) at inv.chosen in
      let belongs = belongs_back s.script s.executor s.fields (stage_of p stage) job b.job was_chosen.belongs was_chosen.plays seen b.script_is in
      let of_task : b.job.task ≡ job.task = ap (λ (f : JobFacts). record { 0 = f.task }) seen ∙ ap (λ (n : ℕ). record { 0 = n }) (same_task (stage_of p stage) job) in
      record {
        job = b.job;
        same_job = seen;
        keeps = subst (λ (v : ExecStateView). ExecInvariant v) (sym is) (stage_keeps s c chosen inv at belongs of_task refl tt);
        is = is;
      }

-- what was done, by the job that lies there and by its record
pub done_here : (l : BookLockView) (levels : List ℕ) (j j' : JobView BodyView) (r : RecordView) (jobs jobs' : List JobFacts) (v w : BookKnown) (was is : Bool) (answer : Committed) (written : Option RecordView) → written ≡ Some r → j ≡ j'
    → IfSome written (λ x. CommitsHere l levels j x jobs jobs' v w was is answer) → CommitsHere l levels j' r jobs jobs' v w was is answer
done_here l levels j j' r jobs jobs' v w was is answer written one same d =
    subst (λ (x : JobView BodyView). CommitsHere l levels x r jobs jobs' v w was is answer) same (subst (λ (o : Option RecordView). IfSome o (λ x. CommitsHere l levels j x jobs jobs' v w was is answer)) one d)

pub task_here : (task : TaskId) (j : JobView BodyView) (place : Option (JobView BodyView)) → place ≡ Some j → HasJob place (λ x. task ≡ x.task) → task ≡ j.task
task_here task j place is h = h.2 ∙ ap (λ (x : JobView BodyView). x.task) (same_Some h.0 j (sym h.1 ∙ is))

-- how it was played
pub stage_env : (st : ChosenStage) (w : ℕ) (e e' : Env) → st ≡ Played w e → StageIs e' st → e' ≡ e
stage_env st w e e' is at = subst (StageIs e') is at

pub placed : (place : Option (JobView BodyView)) (P Q : JobView BodyView → Type 0) → HasJob place P → ((j : JobView BodyView) → P j → Q j) → IsSomeAnd place Q
placed place P Q h f = subst (λ (o : Option (JobView BodyView)). IsSomeAnd o Q) (sym h.1) (f h.0 h.2)

-- what was done with the book that was taken
commits_here : (l : BookLockView) (levels : List ℕ) (j : JobView BodyView) (r : RecordView) (jobs jobs' : List JobFacts) (v w : BookKnown) (was is : Bool) (answer : Committed) (b : BookView) → IsThere l levels j v was is b → (is ≡ true → was ≡ true)
    → CommitsTo b j r jobs jobs' v w answer → CommitsHere l levels j r jobs jobs' v w was is answer
commits_here l levels j r jobs jobs' v w was is committed.Applied b there order x = (b, there, x)
commits_here l levels j r jobs jobs' v w was is (committed.Begun env) b there order x = (b, there, x.0)
commits_here l levels j r jobs jobs' v w was is committed.Refused b there order x = (x.0, order)

pub done_locked : (place : Option (JobView BodyView)) (j : JobView BodyView) (written : Option RecordView) (l : BookLockView) (levels : List ℕ) (jobs jobs' : List JobFacts) (v w : BookKnown) (was is : Bool) (answer : Committed) (b : BookView) → place ≡ Some j → IsThere l levels j v was is b
    → (is ≡ true → was ≡ true) → IsSomeAnd place (λ x. IfSome written (λ r. CommitsTo b x r jobs jobs' v w answer)) → HasJob place (λ x. IfSome written (λ r. CommitsHere l levels x r jobs jobs' v w was is answer))
done_locked place j written l levels jobs jobs' v w was is answer b at there order d =
    (j, at, by written (subst (λ (o : Option (JobView BodyView)). IsSomeAnd o (λ x. IfSome written (λ r. CommitsTo b x r jobs jobs' v w answer))) at d))
  where
    by : (o : Option RecordView) → IfSome o (λ r. CommitsTo b j r jobs jobs' v w answer) → IfSome o (λ r. CommitsHere l levels j r jobs jobs' v w was is answer)
    by None x = tt
    by (Some r) x = commits_here l levels j r jobs jobs' v w was is answer b there order x

pub refused_locked : (place : Option (JobView BodyView)) (j : JobView BodyView) (written : Option RecordView) (v w : BookKnown) (was is : Bool) → place ≡ Some j → w ≡ v → (is ≡ true → was ≡ true) → HasJob place (λ x. IfSome written (λ r. (w ≡ v) × (is ≡ true → was ≡ true)))
refused_locked place j written v w was is at same order = (j, at, by written)
  where
    by : (o : Option RecordView) → IfSome o (λ r. (w ≡ v) × (is ≡ true → was ≡ true))
    by None = tt
    by (Some r) = (same, order)
