-- Jobs in front that are seen the same, in some order.
use Rattle.swift_executor.proofs.Prelude.{◌≡◌, ◌≤◌, ℕ, Bool, true, false, Option, Some, None, List, [], ◌∷◌, ◌++◌, map, refl, ap, sym, subst, ◌∙◌, All, All-cons, All-head, All-tail, All-map, All-nil, All-permutation, IsPermutation, IsPermutation-cons, IsPermutation-map, IsPermutation-trans, IsPermutation-refl, All-weaker, IsPermutation-append_left, TaskId, Env, JobView, BodyView, JobFacts, job_facts, BookKnown, BookLockView, BookSeatView, same_Some, PutsBack, BelongsTo, ExecInvariant, ready_jobs, HasTaken, rank, priority_of, level_at, ReadyJob, ReadyJobsView, ready_job, ComesFirst, GoesTogether, IsOfBook, IsSeatFor, KeepsOrder, at_rest, ChosenStageView, ChosenView, ExecStateView, HasChosen, OnlyJobs, Plays, before_turn, begun, picked, played, takes_by_arrival, executor_kind, TakenView, taken_of, HasBegun, HasStayed, RunsTurn, Afresh, BeginsElse, BeginsThere, ChoosesAhead, PlaysAhead, StaysWhole, begun_as}
use Rattle.swift_executor.specs.AsideInside.{IsShuffled, seen_ready}
use Rattle.swift_executor.proofs.AccountKept.{front_job}
use Rattle.swift_executor.proofs.PlayedAhead.{begins_else}
use Rattle.swift_course.specs.Views.{Ticket}
use Rattle.swift_executor.specs.Account.{chosen_jobs}
use Rattle.swift_executor.specs.Seats.{AccountsFor, AreTicketsOf, jobs_of}
use Rattle.swift_executor.proofs.Visits.{at_rest_of, only_by}
use Rattle.swift_executor.proofs.VisitSteps.{Done, stays_both, stays_with}

all_of_map : {X Y : Type 0} (P : Y → Type 0) (f : X → Y) (xs : List X) → All P (map f xs) → All (λ x. P (f x)) xs
all_of_map P f [] all = All-nil (λ x. P (f x))
all_of_map P f (x ∷ xs) all = All-cons (λ x. P (f x)) x xs (All-head P (f x) (map f xs) all) (all_of_map P f xs (All-tail P (f x) (map f xs) all))

-- what holds of all that are seen the same
pub all_seen : (Q : JobFacts × ℕ → Type 0) (xs ys : List (ReadyJob BodyView)) → IsPermutation (map seen_ready xs) (map seen_ready ys) → All (λ x. Q (seen_ready x)) xs → All (λ x. Q (seen_ready x)) ys
all_seen Q xs ys perm all = all_of_map Q seen_ready ys (All-permutation Q (map seen_ready xs) (map seen_ready ys) perm (All-map Q seen_ready xs all))

facts_map : (xs : List (ReadyJob BodyView)) → map (λ (p : JobFacts × ℕ). p.0) (map seen_ready xs) ≡ map front_job xs
facts_map [] = refl
facts_map (x ∷ xs) = ap (λ ys. job_facts x.job ∷ ys) (facts_map xs)

-- the jobs that are ready, where those in front are seen the same
pub ready_shuffled : (r : ReadyJobsView BodyView) (front : List (ReadyJob BodyView)) → IsPermutation (map seen_ready r.front) (map seen_ready front) → IsPermutation (ready_jobs r) (ready_jobs (record r { front = front }))
ready_shuffled r front perm =
    let facts = IsPermutation-map (λ (p : JobFacts × ℕ). p.0) (map seen_ready r.front) (map seen_ready front) perm in
    let one = subst (λ xs. IsPermutation xs (map (λ (p : JobFacts × ℕ). p.0) (map seen_ready front))) (facts_map r.front) facts in
    IsPermutation-append_left (map job_facts r.behind) (map front_job r.front) (map front_job front) (subst (IsPermutation (map front_job r.front)) (facts_map front) one)

-- a state whose jobs in front are these
abbrev pub with_front : ExecStateView → List (ReadyJob BodyView) → ExecStateView
with_front s front = record s { ready = record s.ready { front = front } }

taken_moved : (taken : List JobFacts) (s : ExecStateView) (front : List (ReadyJob BodyView)) → IsPermutation (map seen_ready s.ready.front) (map seen_ready front) → HasTaken taken s → HasTaken taken (with_front s front)
taken_moved taken s front perm was =
    let chosen = chosen_jobs s.chosen in
    let rest = was.journalled ++ was.folded in
    let old = ready_jobs s.ready in
    let new = ready_jobs (record s.ready { front = front }) in
    record {
      journalled = was.journalled;
      folded = was.folded;
      all = IsPermutation-trans taken ((old ++ chosen) ++ rest) ((new ++ chosen) ++ rest) was.all
          (IsPermutation-append_left rest (old ++ chosen) (new ++ chosen) (IsPermutation-append_left chosen old new (ready_shuffled s.ready front perm)));
      records = was.records;
      past = was.past;
    }

free_tickets : (s : ExecStateView) (seat : BookSeatView) → IsSeatFor s seat → s.chosen ≡ None → IsPermutation (jobs_of seat.knows.tickets) (ready_jobs s.ready)
free_tickets s seat is free = subst (λ (o : Option ChosenView). AreTicketsOf s.ready o seat.knows.tickets) free is.tickets

knows_moved : (s : ExecStateView) (seat : BookSeatView) (front : List (ReadyJob BodyView)) → s.chosen ≡ None → IsPermutation (map seen_ready s.ready.front) (map seen_ready front) → IsSeatFor s seat → IsSeatFor (with_front s front) seat
knows_moved s seat front free perm is =
    let a : AccountsFor s seat.knows = is.account in
    let tickets = IsPermutation-trans (jobs_of seat.knows.tickets) (ready_jobs s.ready) (ready_jobs (record s.ready { front = front })) (free_tickets s seat is free) (ready_shuffled s.ready front perm) in
    record {
      here = is.here;
      account = record { script_is = a.script_is; past = a.past; order = a.order; seen = a.seen; accounts = a.accounts; folded = a.folded; replayed = a.replayed };
      tickets = subst (λ (o : Option ChosenView). AreTicketsOf (record s.ready { front = front }) o seat.knows.tickets) (sym free) tickets;
      seen = is.seen;
      levels = is.levels;
    }

-- no turn was run, where jobs in front are others that are seen the same
pub moved_stays : (r : TakenView) (front : List (ReadyJob BodyView)) (order : Bool) → GoesTogether r → r.state.chosen ≡ None → IsPermutation (map seen_ready r.state.ready.front) (map seen_ready front) → (order ≡ true → r.is_orderly ≡ true)
    → Done (HasStayed r) (taken_of (with_front r.state front) r.taker r.seat order)
moved_stays r front order t free perm orders =
    stays_with r (with_front r.state front) r.seat order t refl refl (only_by r.state (with_front r.state front) (record r.state.ready { front = front }) r.state.chosen refl) free
    (taken_moved r.taker.taken r.state front perm t.is_of.1) (knows_moved r.state r.seat front free perm t.is_of.2) (λ e. at_rest_of r t free (orders e))

pub shuffled_stays : (r : TakenView) (new : ExecStateView) (order : Bool) → GoesTogether r → r.state.chosen ≡ None → IsShuffled r.state new → (order ≡ true → r.is_orderly ≡ true) → Done (HasStayed r) (taken_of new r.taker r.seat order)
shuffled_stays r new order t free is orders =
    subst (λ (s : ExecStateView). Done (HasStayed r) (taken_of s r.taker r.seat order)) (sym is.same) (moved_stays r new.ready.front order t free is.front orders)

-- how urgent a job is that is seen so
abbrev seen_urgency : List ℕ → JobFacts × ℕ → ℕ
seen_urgency levels p = rank (priority_of (level_at levels (record { 0 = p.0.task })))

abbrev comes_seen : Bool → List ℕ → ReadyJob BodyView → JobFacts × ℕ → Type 0
comes_seen true levels x p = x.arrival ≤ p.1
comes_seen false levels x p = (seen_urgency levels p ≤ seen_urgency levels (seen_ready x)) × (seen_urgency levels p ≡ seen_urgency levels (seen_ready x) → x.arrival ≤ p.1)

to_seen : (by : Bool) (levels : List ℕ) (x y : ReadyJob BodyView) → ComesFirst by levels x y → comes_seen by levels x (seen_ready y)
to_seen true levels x y h = h
to_seen false levels x y h = h

from_seen : (by : Bool) (levels : List ℕ) (x y : ReadyJob BodyView) → comes_seen by levels x (seen_ready y) → ComesFirst by levels x y
from_seen true levels x y h = h
from_seen false levels x y h = h

-- a job that comes first comes first among others that are seen the same
pub first_moved : (by : Bool) (levels : List ℕ) (x : ReadyJob BodyView) (xs ys : List (ReadyJob BodyView)) → IsPermutation (map seen_ready xs) (map seen_ready ys) → All (ComesFirst by levels x) xs → All (ComesFirst by levels x) ys
first_moved by levels x xs ys perm all =
    All-weaker (λ y. comes_seen by levels x (seen_ready y)) (ComesFirst by levels x) (λ y h. from_seen by levels x y h) ys
    (all_seen (comes_seen by levels x) xs ys perm (All-weaker (ComesFirst by levels x) (λ y. comes_seen by levels x (seen_ready y)) (λ y h. to_seen by levels x y h) xs all))

-- The turn of a job that was played ahead has begun in another environment, once jobs in front were others.
module _ (r : TakenView) (t : GoesTogether r) (free : r.state.chosen ≡ None) (task : TaskId) (s : ExecStateView) (ch : ChoosesAhead r.state s task) (worker : ℕ) (c : ChosenView) (pl : ExecStateView) (a : PlaysAhead s worker c pl)
    (pl' : ExecStateView) (sh : IsShuffled pl pl') where
  abbrev front : List (ReadyJob BodyView)
  front = pl'.ready.front

  abbrev own : ReadyJob BodyView
  own = ready_job ch.job ch.arrival

  abbrev back : ExecStateView
  back = with_front r.state (own ∷ front)

  front_is : pl.ready.front ≡ s.ready.front
  front_is = ap (λ (x : ExecStateView). x.ready.front) a.plays.same

  perm : IsPermutation (map seen_ready r.state.ready.front) (map seen_ready (own ∷ front))
  perm =
      IsPermutation-trans (map seen_ready r.state.ready.front) (map seen_ready (own ∷ s.ready.front)) (map seen_ready (own ∷ front)) (IsPermutation-map seen_ready r.state.ready.front (own ∷ s.ready.front) ch.rest)
      (IsPermutation-cons (seen_ready own) (map seen_ready s.ready.front) (map seen_ready front) (subst (λ (xs : List (ReadyJob BodyView)). IsPermutation (map seen_ready xs) (map seen_ready front)) front_is sh.front))

  abbrev picked' : ExecStateView
  picked' = with_front s front

  chooses' : ChoosesAhead back picked' task
  chooses' = record {
    job = ch.job;
    arrival = ch.arrival;
    first = first_moved (takes_by_arrival (executor_kind r.state.script r.state.executor)) r.state.ready.levels own r.state.ready.front (own ∷ front) perm ch.first;
    task_is = ch.task_is;
    rest = IsPermutation-refl (own ∷ front);
    same = ap (λ (x : ExecStateView). with_front x front) ch.same;
  }

  plays' : PlaysAhead picked' worker c (with_front pl front)
  plays' =
      let h = a.plays in
      record {
        env = a.env;
        at = a.at;
        stage = a.stage;
        plays = record {
          worker = h.worker;
          env = h.env;
          was = h.was;
          job = h.job;
          frame = h.frame;
          fields = h.fields;
          effects = h.effects;
          exit = h.exit;
          plays = h.plays;
          same_job = h.same_job;
          script_is = h.script_is;
          same = ap (λ (x : ExecStateView). with_front x front) h.same;
        };
      }

  stays : Done (HasStayed r) (taken_of back r.taker r.seat r.is_orderly)
  stays = moved_stays r (own ∷ front) r.is_orderly t free perm (λ e. e)

  pub begins_moved : (b : BookLockView) (of : IsOfBook b r) (c' : ChosenView) (at : pl.chosen ≡ Some c') (task' : TaskId) (seat' : BookSeatView) (order : Bool) (new : ExecStateView)
      → BeginsElse worker task' r.seat seat' r.is_orderly order pl' new c' → Done (Afresh (HasBegun worker task') r) (taken_of new r.taker seat' order)
  begins_moved b of c' at task' seat' order new x =
      let r' = taken_of back r.taker r.seat r.is_orderly in
      let d = begins_else r' stays.together free task picked' chooses' worker c (with_front pl front) plays' b of c' at task' seat' order new
      (subst (λ (y : ExecStateView). BeginsElse worker task' r.seat seat' r.is_orderly order y new c') sh.same x) in
      record {
        together = d.together;
        does = record {
          ready = d.does.ready;
          whole = record { stays = stays_both r r' d.does.ready stays.does d.does.whole.stays; is_of = λ y. d.does.whole.is_of (stays.together.is_of) };
          does = d.does.does;
        };
      }

-- A job was chosen ahead, and is ready again as it was when it was chosen.
module _ (old s : ExecStateView) (free : old.chosen ≡ None) (task : TaskId) (ch : ChoosesAhead old s task) (mid : ExecStateView) (c1 : ChosenView) (at : mid ≡ record s { chosen = Some c1 }) (facts : before_turn c1.stage c1.job ≡ job_facts ch.job) (arrival : c1.arrival ≡ ch.arrival) where
  pub back_shuffled : (new : ExecStateView) → HasChosen mid (PutsBack mid new) → ExecInvariant new → IsShuffled old new
  back_shuffled new h inv =
      let back = h.2 in
      let here : h.0 ≡ c1 = same_Some h.0 c1 (sym h.1 ∙ ap (λ (x : ExecStateView). x.chosen) at) in
      let own = ready_job ch.job ch.arrival in
      let seen : seen_ready (ready_job back.job h.0.arrival) ≡ seen_ready own =
      ap (λ (f : JobFacts). (f, h.0.arrival)) (back.same_job ∙ ap (λ (x : ChosenView). before_turn x.stage x.job) here ∙ facts) ∙ ap (λ (n : ℕ). (job_facts ch.job, n)) (ap (λ (x : ChosenView). x.arrival) here ∙ arrival)
      in
      let front : mid.ready.front ≡ s.ready.front = ap (λ (x : ExecStateView). x.ready.front) at in
      let again : IsPermutation (map seen_ready (ready_job back.job h.0.arrival ∷ mid.ready.front)) (map seen_ready new.ready.front) = IsPermutation-map seen_ready (ready_job back.job h.0.arrival ∷ mid.ready.front) new.ready.front back.front in
      let one : IsPermutation (seen_ready own ∷ map seen_ready mid.ready.front) (map seen_ready new.ready.front) = subst (λ (y : JobFacts × ℕ). IsPermutation (y ∷ map seen_ready mid.ready.front) (map seen_ready new.ready.front)) seen again in
      let two : IsPermutation (map seen_ready (own ∷ s.ready.front)) (map seen_ready new.ready.front) = subst (λ (xs : List (ReadyJob BodyView)). IsPermutation (seen_ready own ∷ map seen_ready xs) (map seen_ready new.ready.front)) front one in
      let same : new ≡ with_front old new.ready.front =
      back.same ∙ ap (λ (v : ExecStateView). record v { ready = record v.ready { front = new.ready.front }; chosen = None }) at
      ∙ ap (λ (v : ExecStateView). record v { ready = record v.ready { front = new.ready.front }; chosen = None }) ch.same
      ∙ ap (λ (o : Option ChosenView). record old { ready = record old.ready { front = new.ready.front }; chosen = o }) (sym free)
      in
      record {
        front = IsPermutation-trans (map seen_ready old.ready.front) (map seen_ready (own ∷ s.ready.front)) (map seen_ready new.ready.front) (IsPermutation-map seen_ready old.ready.front (own ∷ s.ready.front) ch.rest) two;
        belongs = subst (λ (v : ExecStateView). All (λ x. BelongsTo v.script v.executor x.job) new.ready.front) same inv.front;
        same = same;
      }

-- the job that was chosen ahead
pub chosen_ahead : (old s : ExecStateView) (task : TaskId) (ch : ChoosesAhead old s task) (c : ChosenView) → s.chosen ≡ Some c → c ≡ record { job = ch.job; arrival = ch.arrival; stage = picked }
chosen_ahead old s task ch c at = same_Some c (record { job = ch.job; arrival = ch.arrival; stage = picked }) (sym at ∙ ap (λ (x : ExecStateView). x.chosen) ch.same)

-- the turn of the job that was chosen ahead
pub played_ahead : (old s : ExecStateView) (task : TaskId) (ch : ChoosesAhead old s task) (c : ChosenView) (worker : ℕ) (env : Env) (pl : ExecStateView) → s.chosen ≡ Some c → HasChosen (begun_as s c worker env) (Plays (begun_as s c worker env) pl) → PlaysAhead s worker c pl
played_ahead old s task ch c worker env pl at h =
    let one : ChosenView = record c { stage = begun worker env } in
    let here : h.0 ≡ one = same_Some h.0 one (sym h.1) in
    record { env = env; at = at; stage = ap (λ (x : ChosenView). x.stage) (chosen_ahead old s task ch c at); plays = subst (Plays (begun_as s c worker env) pl) here h.2 }

-- ready again before its turn was played, and after it
pub unplayed_shuffled : (old s : ExecStateView) (free : old.chosen ≡ None) (task : TaskId) (ch : ChoosesAhead old s task) (c : ChosenView) (worker : ℕ) (env : Env) (new : ExecStateView) → s.chosen ≡ Some c → HasChosen (begun_as s c worker env) (PutsBack (begun_as s c worker env) new) → ExecInvariant new → IsShuffled old new
unplayed_shuffled old s free task ch c worker env new at =
    let first = chosen_ahead old s task ch c at in
    back_shuffled old s free task ch (begun_as s c worker env) (record c { stage = begun worker env }) refl (ap (λ (x : ChosenView). job_facts x.job) first) (ap (λ (x : ChosenView). x.arrival) first) new

pub played_shuffled : (old s : ExecStateView) (free : old.chosen ≡ None) (task : TaskId) (ch : ChoosesAhead old s task) (c : ChosenView) (worker : ℕ) (pl : ExecStateView) (a : PlaysAhead s worker c pl) (new : ExecStateView) → HasChosen pl (PutsBack pl new) → ExecInvariant new → IsShuffled old new
played_shuffled old s free task ch c worker pl a new =
    let h = a.plays in
    let first = chosen_ahead old s task ch c a.at in
    back_shuffled old s free task ch pl (record { job = h.job; arrival = c.arrival; stage = played h.worker h.env h.frame h.fields h.effects h.exit }) h.same (h.same_job ∙ ap (λ (x : ChosenView). job_facts x.job) first) (ap (λ (x : ChosenView). x.arrival) first) new
