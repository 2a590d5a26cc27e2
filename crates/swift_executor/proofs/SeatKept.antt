-- What each call keeps of what the seat of an executor knows.
use Rattle.swift_executor.proofs.Prelude.{◌≡◌, ℕ, suc, ◌≤◌, ◌==◌, ℤ, Bool, true, false, if◌then◌else◌, Option, Some, None, IfSome, List, [], ◌∷◌, ◌++◌, length, map, take, take_all, drop, replicate, get_or, refl, ap, sym, subst, ◌∙◌, append_assoc, arith, inl, inr, is_some, nat_lt, false≢true, length-append, map-append, take-append-le, All-head, IsPermutation-cons, IsPermutation-map, IsPermutation-refl, IsPermutation-sym, IsPermutation-trans, IsPermutation, Env, TaskId, FOLD, TASKS, Resume, ScriptView, actor_executor, executor_start, method_actor, FrameView, EffectView, ExitView, calling, asking_next, closing, yielding, returning, failing, BodyView, HasFirst, IsTurnOf, left, JobView, replay-append, FoldedView, folded_of, folds, RecordView, IsLawfulRecord, LawfulGrows, fields_after, replay, Event, AreLevels, HaveStayed, IsLevel, JobFacts, job_facts, frames_executor, Account, BookKnown, Ticket, TurnOrder, at_rest, fresh, order_applied, order_begun, with_record, with_turn_begun, BeginsTicket, BookSeatView, HasTicket, RunsAtSeat, after_turn, knowing, with_ticket, ready_jobs, FreeAreSeen, Adds, AreAtMost, AreHigher, ChoosesAhead, Forwards, HaveCounted, ReadyJobsView, level_at, ready_job, AccountsFor, AreTicketsAt, AreTicketsOf, HaveSeen, IsFirst, IsOpened, IsSeatFor, seen_by, BelongsTo, Chooses, ChosenView, ExecStateView, HasChosen, HasNone, IsChosen, ExecInvariant, LacksTask, Plays, PutsBack, ChosenStageView, picked, begun, played, before_turn, checkpoint_with, frame_after, journal_with, new_executor, record_by}
use Rattle.std.specs.Prelude.{All}
use Rattle.std.proofs.lemmas.Bool.Decides.{nat_tests}
use Rattle.std.proofs.lemmas.List.{append-nil}
use Rattle.swift_interpreter.specs.Turn.{waiting}
use Rattle.swift_events.specs.Lives.{life}
use Rattle.swift_course.specs.Course.{IsFront, IsIn}
use Rattle.swift_course.specs.Frames.{kept_frame}
use Rattle.swift_shared_book.specs.Calls.{IsPlayed}
use Rattle.swift_shared_book.specs.Shared.{HasPlayed}
use Rattle.swift_executor.specs.Seats.{jobs_of}
use Rattle.swift_executor.specs.State as state
use Rattle.swift_executor.proofs.AccountKept.{added, front_less, front_moved, front_more}
use Rattle.swift_executor.proofs.Cancelled.{has_image, same_others}
use Rattle.swift_executor.proofs.TurnKept.{recorded}

-- the account is the same, whatever jobs are ready or chosen
abbrev same_account : (s : ExecStateView) (v : BookKnown) (ready : ReadyJobsView BodyView) (chosen : Option ChosenView) (tickets : List Ticket) → AccountsFor s v → AccountsFor (record s { ready = ready; chosen = chosen }) (record v { tickets = tickets })
same_account s v ready chosen tickets a = record { script_is = a.script_is; past = a.past; order = a.order; seen = a.seen; accounts = a.accounts; folded = a.folded; replayed = a.replayed }

-- the tickets, where no job is chosen, and where this one is
free_tickets : (s : ExecStateView) (seat : BookSeatView) → IsSeatFor s seat → s.chosen ≡ None → IsPermutation (jobs_of seat.knows.tickets) (ready_jobs s.ready)
free_tickets s seat is free = subst (λ (o : Option ChosenView). AreTicketsOf s.ready o seat.knows.tickets) free is.tickets

chosen_tickets : (s : ExecStateView) (seat : BookSeatView) (c : ChosenView) → IsSeatFor s seat → s.chosen ≡ Some c → AreTicketsAt s.ready c.job c.stage seat.knows.tickets
chosen_tickets s seat c is at = subst (λ (o : Option ChosenView). AreTicketsOf s.ready o seat.knows.tickets) at is.tickets

-- the levels that were given stay so, where none falls
max_is : (a b : ℕ) → a ≤ (if nat_lt a b then b else a)
max_is a b = grind (arith, nat_tests)

pub higher_rises : (old given new : List ℕ) → AreHigher old given new → AreAtMost old new
higher_rises old given new higher t = subst (λ (n : ℕ). level_at old t ≤ n) (sym (higher t)) (max_is (level_at old t) (level_at given t))

pub given_at_most : (old given new : List ℕ) → AreHigher old given new → AreAtMost given new
given_at_most old given new higher t = subst (λ (n : ℕ). level_at given t ≤ n) (sym (higher t)) (max_is_too (level_at old t) (level_at given t))
  where
    max_is_too : (a b : ℕ) → b ≤ (if nat_lt a b then b else a)
    max_is_too a b = grind (arith, nat_tests)

still_counted : (log : List Event) (old new : List ℕ) → AreAtMost old new → HaveCounted log old → HaveCounted log new
still_counted log old new rises h = (h.0, h.1, λ t. (let a = h.2 t in let b = rises t in omega (arith, a, b)))

same_counted : (log : List Event) (old new : List ℕ) → new ≡ old → HaveCounted log old → HaveCounted log new
same_counted log old new same h = subst (HaveCounted log) (sym same) h

-- what is added or comes to the front leaves levels and count as they are
adds_counts : (old : ReadyJobsView BodyView) (job : JobView BodyView) (new : ReadyJobsView BodyView) → Adds old job new → (new.counted ≡ old.counted) × (new.levels ≡ old.levels)
adds_counts old job new (inl x) = (ap (λ (r : ReadyJobsView BodyView). r.counted) x.2, ap (λ (r : ReadyJobsView BodyView). r.levels) x.2)
adds_counts old job new (inr x) = (ap (λ (r : ReadyJobsView BodyView). r.counted) x.1, ap (λ (r : ReadyJobsView BodyView). r.levels) x.1)

pub forward_counts : (old : ReadyJobsView BodyView) (task : TaskId) (new : ReadyJobsView BodyView) → Forwards old task new → (new.counted ≡ old.counted) × (new.levels ≡ old.levels)
forward_counts old task new (inl x) = (ap (λ (r : ReadyJobsView BodyView). r.counted) x.1, ap (λ (r : ReadyJobsView BodyView). r.levels) x.1)
forward_counts old task new (inr x) = (ap (λ (r : ReadyJobsView BodyView). r.counted) x.7, ap (λ (r : ReadyJobsView BodyView). r.levels) x.7)

-- so do the levels that a seat knows of
pub seat_levels : (r r' : ReadyJobsView BodyView) (seen : List Event) → r'.counted ≡ r.counted → r'.levels ≡ r.levels → HaveCounted (take r.counted seen) r.levels → HaveCounted (take r'.counted seen) r'.levels
seat_levels r r' seen same levels h = subst (λ (n : ℕ). HaveCounted (take n seen) r'.levels) (sym same) (same_counted (take r.counted seen) r.levels r'.levels levels h)

seat_seen : (r r' : ReadyJobsView BodyView) (seen : List Event) → r'.counted ≡ r.counted → r.counted ≤ length seen → r'.counted ≤ length seen
seat_seen r r' seen same le = subst (λ (n : ℕ). n ≤ length seen) (sym same) le

-- an executor that has run no turn
unmade : (t : TaskId) → IsLevel [] t 0
unfolding life
unmade t = inl (refl, refl)

none_counted : HaveCounted [] (replicate TASKS 0)
none_counted = ([], record { each = unmade; few = omega arith }, λ t. omega arith)

pub new_knows : (script : ScriptView) (executor room : ℕ) (seat : BookSeatView) → IsOpened script executor seat → IsSeatFor (new_executor script executor room) seat
new_knows script executor room seat is = record {
  here = is.0;
  account = subst (λ (v : BookKnown). AccountsFor (new_executor script executor room) v) (sym is.1) (record { script_is = refl; past = []; order = at_rest; seen = []; accounts = refl; folded = refl; replayed = refl });
  tickets = subst (λ (v : BookKnown). IsPermutation (jobs_of v.tickets) []) (sym is.1) (IsPermutation-refl []);
  seen = omega arith;
  levels = none_counted;
}

-- a job that is accepted
pub accepted_knows : (job : JobView BodyView) (old new : ExecStateView) (seat : BookSeatView) → IsSeatFor old seat → old.chosen ≡ None → Adds old.ready job new.ready → new ≡ record old { ready = new.ready }
    → IsSeatFor new (knowing (with_ticket (job_facts job) seat.knows) seat)
accepted_knows job old new seat is free adds same =
    let counts = adds_counts old.ready job new.ready adds in
    let tickets = seat.knows.tickets in
    let all = IsPermutation-trans (job_facts job ∷ jobs_of tickets) (job_facts job ∷ ready_jobs old.ready) (ready_jobs new.ready)
    (IsPermutation-cons (job_facts job) (jobs_of tickets) (ready_jobs old.ready) (free_tickets old seat is free)) (added old.ready job new.ready adds) in
    subst (λ (v : ExecStateView). IsSeatFor v (knowing (with_ticket (job_facts job) seat.knows) seat)) (sym same)
    (record {
      here = is.here;
      account = same_account old seat.knows new.ready old.chosen (fresh (job_facts job) ∷ tickets) is.account;
      tickets = subst (λ (o : Option ChosenView). AreTicketsOf new.ready o (fresh (job_facts job) ∷ tickets)) (sym free) all;
      seen = seat_seen old.ready new.ready is.account.seen counts.0 is.seen;
      levels = seat_levels old.ready new.ready is.account.seen counts.0 counts.1 is.levels;
    })

-- a job that is chosen, one that is not, and none
pub chose_knows : (log : List Event) (task : TaskId) (old new : ExecStateView) (seat : BookSeatView) → IsSeatFor old seat → old.chosen ≡ None → Chooses log old new task → IsSeatFor new seat
chose_knows log task old new seat is free h =
    let ready = record old.ready { front = new.ready.front; levels = new.ready.levels } in
    let chosen : ChosenView = record { job = h.job; arrival = h.arrival; stage = picked } in
    let less = front_less old.ready ready (ready_job h.job h.arrival) h.rest refl in
    subst (λ (v : ExecStateView). IsSeatFor v seat) (sym h.same)
    (record {
      here = is.here;
      account = same_account old seat.knows ready (Some chosen) seat.knows.tickets is.account;
      tickets = IsPermutation-trans (jobs_of seat.knows.tickets) (ready_jobs old.ready) (job_facts h.job ∷ ready_jobs ready) (free_tickets old seat is free) less;
      seen = is.seen;
      levels = still_counted (take old.ready.counted is.account.seen) old.ready.levels new.ready.levels (higher_rises old.ready.levels h.picks.given new.ready.levels h.picks.higher) is.levels;
    })

-- a job that is chosen by the levels that were given before
pub ahead_knows : (task : TaskId) (old new : ExecStateView) (seat : BookSeatView) → IsSeatFor old seat → old.chosen ≡ None → ChoosesAhead old new task → IsSeatFor new seat
ahead_knows task old new seat is free h =
    let ready = record old.ready { front = new.ready.front } in
    let chosen : ChosenView = record { job = h.job; arrival = h.arrival; stage = picked } in
    let less = front_less old.ready ready (ready_job h.job h.arrival) h.rest refl in
    subst (λ (v : ExecStateView). IsSeatFor v seat) (sym h.same)
    (record {
      here = is.here;
      account = same_account old seat.knows ready (Some chosen) seat.knows.tickets is.account;
      tickets = IsPermutation-trans (jobs_of seat.knows.tickets) (ready_jobs old.ready) (job_facts h.job ∷ ready_jobs ready) (free_tickets old seat is free) less;
      seen = is.seen;
      levels = is.levels;
    })

pub lacked_knows : (log : List Event) (old new : ExecStateView) (seat : BookSeatView) → IsSeatFor old seat → old.chosen ≡ None → LacksTask log old new → IsSeatFor new seat
lacked_knows log old new seat is free h =
    let ready = record old.ready { front = new.ready.front; levels = new.ready.levels } in
    let all = IsPermutation-trans (jobs_of seat.knows.tickets) (ready_jobs old.ready) (ready_jobs ready) (free_tickets old seat is free) (front_moved old.ready ready h.rest refl) in
    subst (λ (v : ExecStateView). IsSeatFor v seat) (sym h.same)
    (record {
      here = is.here;
      account = same_account old seat.knows ready old.chosen seat.knows.tickets is.account;
      tickets = subst (λ (o : Option ChosenView). AreTicketsOf ready o seat.knows.tickets) (sym free) all;
      seen = is.seen;
      levels = still_counted (take old.ready.counted is.account.seen) old.ready.levels new.ready.levels (higher_rises old.ready.levels h.picks.given new.ready.levels h.picks.higher) is.levels;
    })

pub none_knows : (log : List Event) (old new : ExecStateView) (seat : BookSeatView) → IsSeatFor old seat → old.chosen ≡ None → HasNone log old new → IsSeatFor new seat
none_knows log old new seat is free h =
    subst (λ (v : ExecStateView). IsSeatFor v seat) (sym h.same)
    (record {
      here = is.here;
      account = same_account old seat.knows (record old.ready { levels = new.ready.levels }) old.chosen seat.knows.tickets is.account;
      tickets = subst (λ (o : Option ChosenView). AreTicketsOf (record old.ready { levels = new.ready.levels }) o seat.knows.tickets) (sym free) (free_tickets old seat is free);
      seen = is.seen;
      levels = still_counted (take old.ready.counted is.account.seen) old.ready.levels new.ready.levels (higher_rises old.ready.levels h.given new.ready.levels h.higher) is.levels;
    })

-- after each of them the levels of the log have been given
pub chose_counted : (log : List Event) (old new : ExecStateView) (given : List ℕ) → AreLevels log given → AreHigher old.ready.levels given new.ready.levels → HaveCounted log new.ready.levels
chose_counted log old new given are higher = (given, are, given_at_most old.ready.levels given new.ready.levels higher)

-- a turn that begins: there is a ticket for it, which comes first then
pub picked_has_ticket : (s : ExecStateView) (seat : BookSeatView) (c : ChosenView) → IsSeatFor s seat → s.chosen ≡ Some c → c.stage ≡ picked → HasTicket (job_facts c.job) seat.knows.tickets
picked_has_ticket s seat c is at was =
    let all = subst (λ (st : ChosenStageView). AreTicketsAt s.ready c.job st seat.knows.tickets) was (chosen_tickets s seat c is at) in
    let h = has_image (λ (k : Ticket). k.job) seat.knows.tickets (job_facts c.job) (ready_jobs s.ready) all in
    (h.one, h.rest, h.all, h.is)

-- the job runs on the executor of the seat's account
pub picked_runs : (s : ExecStateView) (seat : BookSeatView) (j : JobView BodyView) → IsSeatFor s seat → BelongsTo s.script s.executor j → RunsAtSeat s.script seat.knows (job_facts j)
picked_runs s seat j is belongs = (record { executor = s.executor; records = is.account.past ++ s.journal; order = is.account.order; seen = is.account.seen }, is.account.accounts, first_on s.script s.executor j.body.task.frames belongs.top)
  where
    first_on : (script : ScriptView) (e : ℕ) (fs : List FrameView) → HasFirst fs (λ f. actor_executor script (method_actor script f.method) ≡ e) → frames_executor script fs ≡ Some e
    first_on script e [] on = absurd on
    first_on script e (f ∷ fs) on = ap (λ (x : ℕ). Some x) on

-- what the one account of a seat has seen of the log
seen_front : (log : List Event) (accounts : List Account) (a : Account) → accounts ≡ a ∷ [] → All (λ x. IsFront x.seen log) accounts → IsFront a.seen log
seen_front log accounts a one saw = All-head (λ (x : Account). IsFront x.seen log) a [] (subst (All (λ (x : Account). IsFront x.seen log)) one saw)

-- a log that goes on has the same first events
longer_seen : (n : ℕ) (seen log : List Event) → IsFront seen log → n ≤ length seen → n ≤ length log
longer_seen n seen log front le = (let sum = ap length front.1 ∙ length-append seen front.0 in omega (arith, sum, le))

pub first_seen : (n : ℕ) (seen log : List Event) → IsFront seen log → n ≤ length seen → take n seen ≡ take n log
first_seen n seen log front le = sym (ap (take n) front.1 ∙ take-append-le n seen front.0 le)

-- what the accounts say then of how turns have begun
pub orders_begun : (log : List Event) (there : Bool) (xs : List Account) → map (λ (a : Account). a.order) (map (with_turn_begun log there) xs) ≡ map (order_begun there) (map (λ (a : Account). a.order) xs)
orders_begun log there [] = refl
orders_begun log there (a ∷ xs) = ap (λ (os : List TurnOrder). order_begun there a.order ∷ os) (orders_begun log there xs)

pub records_begun : (log : List Event) (there : Bool) (xs : List Account) → map (λ (a : Account). a.records) (map (with_turn_begun log there) xs) ≡ map (λ (a : Account). a.records) xs
records_begun log there [] = refl
records_begun log there (x ∷ xs) = ap (λ rs. x.records ∷ rs) (records_begun log there xs)

pub orders_applied : (r : RecordView) (xs : List Account) → map (λ (a : Account). a.order) (map (with_record r) xs) ≡ map order_applied (map (λ (a : Account). a.order) xs)
orders_applied r [] = refl
orders_applied r (a ∷ xs) = ap (λ (os : List TurnOrder). order_applied a.order ∷ os) (orders_applied r xs)

pub began_knows : (s : ExecStateView) (c : ChosenView) (log : List Event) (there : Bool) (worker : ℕ) (env : Env) (seat seat' : BookSeatView) → IsSeatFor s seat → s.chosen ≡ Some c → c.stage ≡ picked → BeginsTicket log there (job_facts c.job) env seat.knows seat'.knows → HaveSeen log seat.knows → seat'.here ≡ seat.here
    → IsSeatFor (record s { chosen = Some (record c { stage = begun worker env }) }) seat'
began_knows s c log there worker env seat seat' is at was (k, rest, perm, of_job, knows) saw here =
    let front = seen_front log seat.knows.accounts _ is.account.accounts saw in
    let all = subst (λ (st : ChosenStageView). AreTicketsAt s.ready c.job st seat.knows.tickets) was (chosen_tickets s seat c is at) in
    let images = IsPermutation-trans (k.job ∷ jobs_of rest) (jobs_of seat.knows.tickets) (job_facts c.job ∷ ready_jobs s.ready)
    (IsPermutation-sym (jobs_of seat.knows.tickets) (k.job ∷ jobs_of rest) (IsPermutation-map (λ (x : Ticket). x.job) seat.knows.tickets (k ∷ rest) perm)) all in
    let others = same_others (job_facts c.job) (jobs_of rest) (ready_jobs s.ready) (subst (λ (j : JobFacts). IsPermutation (j ∷ jobs_of rest) (job_facts c.job ∷ ready_jobs s.ready)) of_job images) in
    let first : Ticket = record k { begun = Some env } in
    let chosen : ChosenView = record c { stage = begun worker env } in
    record {
      here = here ∙ is.here;
      account = record {
        script_is = ap (λ (x : BookKnown). x.script) knows ∙ is.account.script_is;
        past = is.account.past;
        order = order_begun there is.account.order;
        seen = log;
        accounts = ap (λ (x : BookKnown). x.accounts) knows ∙ ap (map (with_turn_begun log there)) is.account.accounts;
        folded = is.account.folded;
        replayed = is.account.replayed;
      };
      tickets = subst (λ (x : BookKnown). IsFirst s.ready (job_facts c.job) env x.tickets) (sym knows) (first, rest, refl, of_job, refl, others);
      seen = longer_seen s.ready.counted is.account.seen log front is.seen;
      levels = subst (λ (es : List Event). HaveCounted es s.ready.levels) (first_seen s.ready.counted is.account.seen log front is.seen) is.levels;
    }

-- a turn that is played
pub played_knows : (old new : ExecStateView) (seat : BookSeatView) → IsSeatFor old seat → HasChosen old (Plays old new) → IsSeatFor new seat
played_knows old new seat is (c, at, h) =
    let has = subst (λ (st : ChosenStageView). AreTicketsAt old.ready c.job st seat.knows.tickets) h.was (chosen_tickets old seat c is at) in
    let stage = played h.worker h.env h.frame h.fields h.effects h.exit in
    let chosen : ChosenView = record { job = h.job; arrival = c.arrival; stage = stage } in
    subst (λ (v : ExecStateView). IsSeatFor v seat) (sym h.same)
    (record {
      here = is.here;
      account = same_account old seat.knows old.ready (Some chosen) seat.knows.tickets is.account;
      tickets = subst (λ (j : JobFacts). IsFirst old.ready j h.env seat.knows.tickets) (sym h.same_job) has;
      seen = is.seen;
      levels = is.levels;
    })

-- the chosen job is ready again
first_is : (r : ReadyJobsView BodyView) (j : JobFacts) (env : Env) (tickets : List Ticket) → IsFirst r j env tickets → IsPermutation (jobs_of tickets) (j ∷ ready_jobs r)
first_is r j env tickets (k, rest, is, of_job, begins, others) =
    subst (λ (ks : List Ticket). IsPermutation (jobs_of ks) (j ∷ ready_jobs r)) (sym is)
    (subst (λ (x : JobFacts). IsPermutation (k.job ∷ jobs_of rest) (x ∷ ready_jobs r)) of_job (IsPermutation-cons k.job (jobs_of rest) (ready_jobs r) others))

all_at : (r : ReadyJobsView BodyView) (j : JobView BodyView) (stage : ChosenStageView) (tickets : List Ticket) → AreTicketsAt r j stage tickets → IsPermutation (jobs_of tickets) (before_turn stage j ∷ ready_jobs r)
all_at r j picked tickets are = are
all_at r j (begun worker env) tickets are = first_is r (job_facts j) env tickets are
all_at r j (played worker env frame fields effects exit) tickets are = first_is r (before_turn (played worker env frame fields effects exit) j) env tickets are

pub back_knows : (old new : ExecStateView) (seat : BookSeatView) → IsSeatFor old seat → HasChosen old (PutsBack old new) → IsSeatFor new seat
back_knows old new seat is (c, at, h) =
    let ready = record old.ready { front = new.ready.front } in
    let j = before_turn c.stage c.job in
    let all = all_at old.ready c.job c.stage seat.knows.tickets (chosen_tickets old seat c is at) in
    let more = subst (λ (e : JobFacts). IsPermutation (e ∷ ready_jobs old.ready) (ready_jobs ready)) h.same_job (front_more old.ready ready (ready_job h.job c.arrival) h.front refl) in
    subst (λ (v : ExecStateView). IsSeatFor v seat) (sym h.same)
    (record {
      here = is.here;
      account = same_account old seat.knows ready None seat.knows.tickets is.account;
      tickets = IsPermutation-trans (jobs_of seat.knows.tickets) (j ∷ ready_jobs old.ready) (ready_jobs ready) all more;
      seen = is.seen;
      levels = is.levels;
    })

-- the frame after a turn is the one that a record keeps
after_first : (exit : ExitView) (f : FrameView) (others : List FrameView) → frame_after exit (f ∷ others) ≡ kept_frame exit f
after_first (calling c) f others = refl
after_first (waiting t) f others = refl
after_first (asking_next n) f others = refl
after_first (closing n fault) f others = refl
after_first yielding f others = refl
after_first (returning v) f others = refl
after_first (failing fault) f others = refl

frame_first : (script : ScriptView) (frame : FrameView) (outer : List (ℕ × ℤ)) (fields rows : List (List ℤ)) (resume : Resume) (env : Env) (effects : List EffectView) (exit : ExitView) (frames : List FrameView)
    → HasFirst frames (λ f. (f.method ≡ frame.method) × IsTurnOf script frame outer fields resume env f (left rows effects exit))
    → HasFirst frames (λ f. (frame_after exit frames ≡ kept_frame exit f) × IsTurnOf script frame outer fields resume env f (left rows effects exit))
frame_first script frame outer fields rows resume env effects exit [] has = absurd has
frame_first script frame outer fields rows resume env effects exit (f ∷ others) has = (after_first exit f others, has.1)

-- the fields are the replay of all turns of the account
all_replayed : (s : ExecStateView) (v : BookKnown) (a : AccountsFor s v) → ExecInvariant s → s.fields ≡ replay s.script (executor_start s.script s.executor) (a.past ++ s.journal)
all_replayed s v a is =
    is.replayed ∙ ap (λ (fs : List (List ℤ)). replay s.script fs s.journal) a.replayed ∙ sym (replay-append s.script (executor_start s.script s.executor) a.past s.journal)

-- A turn that was played is that of the first ticket, after those of the account.
module _ (s : ExecStateView) (seat : BookSeatView) (c : ChosenView) (worker : ℕ) (env : Env) (frame : FrameView) (rows : List (List ℤ)) (effects : List EffectView) (exit : ExitView)
    (is : ExecInvariant s) (at : s.chosen ≡ Some c) (was : c.stage ≡ played worker env frame rows effects exit) (known : IsSeatFor s seat) where
  chosen : IsChosen s c
  chosen = subst (λ (o : Option ChosenView). IfSome o (IsChosen s)) at is.chosen

  plays : state.HasPlayed s.script s.fields c.job (played worker env frame rows effects exit)
  plays = subst (λ (st : ChosenStageView). state.HasPlayed s.script s.fields c.job st) was chosen.plays

  first_ticket : IsFirst s.ready (before_turn (played worker env frame rows effects exit) c.job) env seat.knows.tickets
  first_ticket = subst (λ (st : ChosenStageView). AreTicketsAt s.ready c.job st seat.knows.tickets) was (chosen_tickets s seat c known at)

  pub has_played : HasPlayed s.script seat.knows c.job (record_by c.job worker env frame effects exit)
  has_played =
      let j = c.job in
      let r = record_by j worker env frame effects exit in
      let a = known.account in
      let t = first_ticket in
      let fields = all_replayed s seat.knows a is in
      let rec = recorded s.script s.executor s.fields rows j worker env frame effects exit chosen.belongs plays in
      let has = frame_first s.script frame j.body.task.outer s.fields rows j.resume env effects exit j.body.task.frames plays.1 in
      let account : Account = record { executor = s.executor; records = a.past ++ s.journal; order = a.order; seen = a.seen } in
      let plays_is : IsPlayed s.script account t.0 j r =
      record {
        was = t.3;
        begun = t.4;
        task_is = refl;
        number_is = refl;
        resume_is = refl;
        outer_is = refl;
        fields = rows;
        frame = subst (λ (fs : List (List ℤ)). HasFirst j.body.task.frames (λ f. (frame_after exit j.body.task.frames ≡ kept_frame exit f) × IsTurnOf s.script frame j.body.task.outer fs j.resume env f (left rows effects exit))) fields has;
        on = rec.on;
        lawful = subst (λ (fs : List (List ℤ)). IsLawfulRecord s.script fs r) fields rec.lawful;
      }
      in
      record { account = account; ticket = t.0; rest = t.1; accounts = a.accounts; tickets = t.2; plays = plays_is }

  -- once it is journalled, the account has its record
  pub turned_knows : (ready' : ReadyJobsView BodyView) → ((script : ScriptView) (fields : List (List ℤ)) (rs : List RecordView) (r : RecordView) → LawfulGrows script fields rs r) → IsPermutation (ready_jobs s.ready) (ready_jobs ready') → (ready'.counted ≡ s.ready.counted) × (ready'.levels ≡ s.ready.levels)
      → let r = record_by c.job worker env frame effects exit in
      IsSeatFor (record s { ready = ready'; chosen = None; journal = journal_with s.journal r; checkpoint = checkpoint_with s.checkpoint s.journal r rows; fields = rows }) (knowing (after_turn r seat.knows) seat)
  turned_knows ready' grows moved counts =
      let r = record_by c.job worker env frame effects exit in
      let t = first_ticket in
      let rest : drop 1 seat.knows.tickets ≡ t.1 = ap (drop 1) t.2 in
      let tickets = subst (λ (ks : List Ticket). IsPermutation (jobs_of ks) (ready_jobs ready')) (sym rest) (IsPermutation-trans (jobs_of t.1) (ready_jobs s.ready) (ready_jobs ready') t.5 moved) in
      let kept = by (suc (length s.journal) == FOLD) in
      record {
        here = known.here;
        account = kept.0;
        tickets = tickets;
        seen = subst (λ (es : List Event). ready'.counted ≤ length es) (sym kept.1) (seat_seen s.ready ready' a.seen counts.0 known.seen);
        levels = subst (λ (es : List Event). HaveCounted (take ready'.counted es) ready'.levels) (sym kept.1) (seat_levels s.ready ready' a.seen counts.0 counts.1 known.levels);
      }
    where
      r : RecordView
      r = record_by c.job worker env frame effects exit

      a : AccountsFor s seat.knows
      a = known.account

      start : List (List ℤ)
      start = executor_start s.script s.executor

      after : rows ≡ replay s.script s.checkpoint.fields (s.journal ++ r ∷ [])
      after =
          let rec = recorded s.script s.executor s.fields rows c.job worker env frame effects exit chosen.belongs plays in
          rec.fields_are ∙ ap (λ (fs : List (List ℤ)). fields_after s.script fs r) is.replayed ∙ sym (grows s.script s.checkpoint.fields s.journal r).replayed

      accounts : (records : List RecordView) → (a.past ++ s.journal) ++ r ∷ [] ≡ records → map (with_record r) seat.knows.accounts ≡ record { executor = s.executor; records = records; order = order_applied a.order; seen = a.seen } ∷ []
      accounts records are = ap (map (with_record r)) a.accounts ∙ ap (λ (rs : List RecordView). record { executor = s.executor; records = rs; order = order_applied a.order; seen = a.seen } ∷ []) are

      by : (b : Bool) → (x : AccountsFor (record s { ready = ready'; chosen = None; journal = if b then [] else (s.journal ++ r ∷ []); checkpoint = if b then folds s.checkpoint (s.journal ++ r ∷ []) rows else s.checkpoint; fields = rows }) (after_turn r seat.knows)) × (x.seen ≡ a.seen)
      by true =
          let past = a.past ++ (s.journal ++ r ∷ []) in (
            record {
              script_is = a.script_is;
              past = past;
              order = order_applied a.order;
              seen = a.seen;
              accounts = accounts (past ++ []) (append_assoc a.past s.journal (r ∷ []) ∙ sym (append-nil past));
              folded = ap (λ (fs : List FoldedView). fs ++ map folded_of (s.journal ++ r ∷ [])) a.folded ∙ sym (map-append folded_of a.past (s.journal ++ r ∷ []));
              replayed = after ∙ ap (λ (fs : List (List ℤ)). replay s.script fs (s.journal ++ r ∷ [])) a.replayed ∙ sym (replay-append s.script start a.past (s.journal ++ r ∷ []));
            },
            refl,
          )
      by false = (
        record {
          script_is = a.script_is;
          past = a.past;
          order = order_applied a.order;
          seen = a.seen;
          accounts = accounts (a.past ++ (s.journal ++ r ∷ [])) (append_assoc a.past s.journal (r ∷ []));
          folded = a.folded;
          replayed = a.replayed;
        },
        refl,
      )

-- the levels that a book gives, where none has changed since they were given last
one_level : (log : List Event) (t : TaskId) (l m : ℕ) → IsLevel log t l → IsLevel log t m → l ≡ m
one_level log t l m (inl a) (inl b) = a.1 ∙ sym b.1
one_level log t l m (inl a) (inr b) = absurd (false≢true (sym (ap is_some a.0) ∙ b.3))
one_level log t l m (inr a) (inl b) = absurd (false≢true (sym (ap is_some b.0) ∙ a.3))
one_level log t l m (inr a) (inr b) =
    let up = b.1.greatest a.1.given.0 a.1.given.1 a.0 a.1.given.2 a.1.given.3 in
    let down = a.1.greatest b.1.given.0 b.1.given.1 b.0 b.1.given.2 b.1.given.3 in
    omega (arith, up, down, a.2, b.2)

pub stayed_counted : (s : ExecStateView) (seat : BookSeatView) (log : List Event) (n : ℕ) (given : List ℕ) → IsSeatFor s seat → HaveSeen log seat.knows → HaveStayed log n → AreLevels log given → n ≤ s.ready.counted → AreAtMost given s.ready.levels
stayed_counted s seat log n given is saw stayed are le t =
    let front = seen_front log seat.knows.accounts _ is.account.accounts saw in
    let was = is.levels in
    let then_ : AreLevels (take s.ready.counted log) was.0 = subst (λ (es : List Event). AreLevels es was.0) (first_seen s.ready.counted is.account.seen log front is.seen) was.1 in
    let now = stayed s.ready.counted le was.0 then_ in
    subst (λ (l : ℕ). l ≤ level_at s.ready.levels t) (one_level log t (level_at was.0 t) (level_at given t) (now.each t) (are.each t)) (was.2 t)

-- the levels of the log that the account has seen have been given
counted_at : (r : ReadyJobsView BodyView) (j : JobView BodyView) (n : ℕ) (stage : ChosenStageView) (tickets : List Ticket) → AreTicketsAt r j stage tickets → AreTicketsAt (record r { counted = n }) j stage tickets
counted_at r j n picked tickets are = are
counted_at r j n (begun worker env) tickets are = are
counted_at r j n (played worker env frame fields effects exit) tickets are = are

counted_tickets : (r : ReadyJobsView BodyView) (n : ℕ) (chosen : Option ChosenView) (tickets : List Ticket) → AreTicketsOf r chosen tickets → AreTicketsOf (record r { counted = n }) chosen tickets
counted_tickets r n None tickets are = are
counted_tickets r n (Some c) tickets are = counted_at r c.job n c.stage tickets are

seen_last : (log : List Event) (accounts : List Account) (a : Account) → accounts ≡ a ∷ [] → map (λ (x : Account). x.seen) accounts ≡ log ∷ [] → a.seen ≡ log
seen_last log accounts a one saw = ap (λ (xs : List (List Event)). get_or xs 0 []) (sym (ap (map (λ (x : Account). x.seen)) one) ∙ saw)

pub counted_knows : (s : ExecStateView) (seat : BookSeatView) (log : List Event) (n : ℕ) → IsSeatFor s seat → seen_by seat.knows ≡ log ∷ [] → n ≡ length log → HaveCounted log s.ready.levels
    → IsSeatFor (record s { ready = record s.ready { counted = n } }) seat
counted_knows s seat log n is saw all counted =
    let seen = seen_last log seat.knows.accounts _ is.account.accounts saw in
    let long : n ≡ length is.account.seen = all ∙ ap length (sym seen) in
    let whole : take n is.account.seen ≡ log = take_all n is.account.seen (omega (arith, long)) ∙ seen in
    record {
      here = is.here;
      account = same_account s seat.knows (record s.ready { counted = n }) s.chosen seat.knows.tickets is.account;
      tickets = counted_tickets s.ready n s.chosen seat.knows.tickets is.tickets;
      seen = omega (arith, long);
      levels = subst (λ (es : List Event). HaveCounted es s.ready.levels) (sym whole) counted;
    }

-- an executor that no worker holds, by what its seat knows of a book
pub free_seen : FreeAreSeen
free_seen s seat facts none keeps is knows =
    let a = is.account in
    let own : Account = record { executor = s.executor; records = a.past ++ s.journal; order = a.order; seen = a.seen } in
    let all : All (IsIn knows.1.blocks) (own ∷ []) = subst (λ (xs : List Account). All (IsIn knows.1.blocks) xs) a.accounts knows.1.accounts in
    record {
      none = none;
      keeps = keeps;
      knows = seat.knows;
      facts = facts;
      script_is = subst (λ (o : Option ScriptView). IfSome o (λ known. facts.script ≡ known)) a.script_is knows.0;
      history = knows.1;
      past = a.past;
      part = All-head (IsIn knows.1.blocks) own [] all;
      folded = a.folded;
      replayed = a.replayed;
    }
