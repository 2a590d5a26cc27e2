-- How a batch ends.
use Rattle.swift_executor.proofs.Prelude.{◌≡◌, ◌≤◌, ◌<◌, ◌+◌, ℕ, ℤ, Bool, Option, Some, None, IfSome, List, [], ◌∷◌, map, refl, ap, sym, subst, ◌∙◌, same_Some, take, drop, length, get_or, arith, IsSome, IsSeatOf, TaskId, Env, JobView, BodyView, FrameView, EffectView, ExitView, ScriptView, JobFacts, job_facts, BookKnown, BookLockView, BookSeatView, seat_of, GoesTogether, IsOfBook, ReadyJobsView, BelongsTo, ChosenStageView, ChosenView, ExecInvariant, ExecStateView, HasChosen, IsChosen, IsPlayed, before_turn, begun, played, TakenView, taken_of, BeginsElse, BeginsThere, PlayedTurn, Chosen, ChosenStage, chosen_at, chosen_of, chosen_view, stage_of, RewindsJob, FieldsAre, IsRunning, CanGoBack, StageIsPlayed}
use Rattle.swift_executor.specs.declared.aside.Aside.{Aside}
use Rattle.swift_executor.specs.declared.chosen.ChosenStage.TheVariants.{Picked, Begun, Played as PlayedStage}
use Rattle.swift_executor.specs.AsideInside.{IsAside, IsShuffled, PlayAside, PlaysAside, WasAside, played_on}
use Rattle.swift_executor.proofs.Committed.{task_here}
use Rattle.swift_executor.specs.BatchInside.{Batch, BeginsNext, HasRunSome, IsBatch, IsPlayedOn, RewindsTo, RunsBatch, StartsBatch, between}
use Rattle.swift_executor.specs.PlayingInside.{HasJob}
use Rattle.swift_executor.proofs.ChosenJob.{IsSeen, can_go, played_stage, runs, seen}
use Rattle.swift_executor.proofs.TurnsAside.{played_view, was_aside}
use Rattle.swift_executor.proofs.Batches.{SameThrough, begins_next, between_some, get_taken, next_is, play_same, shuffled_through}
use Rattle.swift_executor.proofs.Shuffled.{shuffled_stays}
use Rattle.swift_executor.proofs.StateKept.{belongs_back, same_task, stage_keeps}
use Rattle.swift_executor.proofs.VisitSteps.{Done}
use Rattle.swift_executor.proofs.Visits.{same_seat, seat_of_book}

-- A turn that was played was taken back, and has begun.
module _ (v : ExecStateView) (p p' : PlayedTurn) (ch ch2 : Chosen) (env : Env) (inv : ExecInvariant v) (here : v.chosen ≡ chosen_of p ch) (back : HasJob ch.job (RewindsJob ch ch2 p env)) (fields : p'.fields ≡ p.fields) (own : v.fields ≡ p.fields.before) where
  abbrev j : JobView BodyView
  j = back.0

  abbrev b : RewindsJob ch ch2 p env j
  b = back.2

  abbrev c1 : ChosenView
  c1 = chosen_view p ch.arrival ch.stage j

  at : v.chosen ≡ Some c1
  at = here ∙ ap (chosen_at p ch.arrival ch.stage) back.1

  abbrev begun_now : ChosenView
  begun_now = record { job = b.job; arrival = ch.arrival; stage = begun b.worker env }

  abbrev after : ExecStateView
  after = record v { chosen = chosen_of p' ch2; fields = p'.fields.before }

  after_is : after ≡ record v { chosen = Some begun_now }
  after_is =
      ap (λ (o : Option ChosenView). record v { chosen = o; fields = p'.fields.before }) (ap (chosen_of p') b.new_is)
      ∙ ap (λ (rows : List (List ℤ)). record v { chosen = Some begun_now; fields = rows }) (ap (λ (f : FieldsAre). f.before) fields ∙ sym own)

  was : IsChosen v c1
  was = subst (λ (o : Option ChosenView). IfSome o (IsChosen v)) at inv.chosen

  of_task : b.job.task ≡ j.task
  of_task = ap (λ (f : JobFacts). record { 0 = f.task }) b.same_job ∙ ap (λ (n : ℕ). record { 0 = n }) (same_task (stage_of p ch.stage) j)

  pub rewound_keeps : ExecInvariant after
  rewound_keeps =
      let belongs = belongs_back v.script v.executor v.fields (stage_of p ch.stage) j b.job was.belongs was.plays b.same_job b.script_is in
      subst ExecInvariant (sym after_is) (stage_keeps v c1 begun_now inv at belongs of_task refl tt)

  pub rewound_to : (s : ExecStateView) → IsShuffled s v → RewindsTo env s after
  rewound_to s is = record {
    back = v;
    shuffled = is;
    chosen = c1;
    at = sym (ap (λ (x : ExecStateView). x.chosen) is.same) ∙ at;
    worker = b.worker;
    on = subst (λ (st : ChosenStage). IsPlayedOn b.worker (stage_of p st)) (sym b.was) refl;
    job = b.job;
    same_job = b.same_job;
    new_is = after_is;
  }

-- A job whose turn was played is the chosen one.
module _ (v : ExecStateView) (p : PlayedTurn) (ch : Chosen) (inv : ExecInvariant v) (here : v.chosen ≡ chosen_of p ch) (has : HasChosen v (λ c. IsPlayed c.stage)) where
  k : IsSeen p ch.arrival ch.stage ch.job has.0
  k = seen p ch.arrival ch.stage ch.job has.0 (sym here ∙ has.1)

  chosen_here : IsChosen v (chosen_view p ch.arrival ch.stage has.0.job)
  chosen_here = subst (IsChosen v) k.view (subst (λ (o : Option ChosenView). IfSome o (IsChosen v)) has.1 inv.chosen)

  pub can_rewind : HasJob ch.job (λ j. IsRunning j.body × CanGoBack j p ch.stage)
  can_rewind = (has.0.job, k.job, (runs v.script v.executor has.0.job chosen_here.belongs, can_go v.script v.executor v.fields has.0.job p ch.stage chosen_here.belongs chosen_here.plays))

  pub may_rewind : StageIsPlayed ch.stage
  may_rewind = played_stage p ch.stage (subst (λ (c : ChosenView). IsPlayed c.stage) k.view has.2)

-- the turn of the job of an aside that was brought back was played
pub aside_chosen : (s v : ExecStateView) (a : Aside) → IsAside s a → IsShuffled s v → HasChosen v (λ c. IsPlayed c.stage)
aside_chosen s v a is sh = (
  chosen_view (played_on a (record { before = s.fields; after = is.after })) a.chosen.arrival a.chosen.stage is.job,
  ap (λ (x : ExecStateView). x.chosen) sh.same ∙ is.chosen_is,
  played_view (played_on a (record { before = s.fields; after = is.after })) a.chosen.stage is.played,
)

-- which worker has played a turn
abbrev worker_of : ℕ → ChosenStageView → ℕ
worker_of other (begun worker env) = worker
worker_of other _ = other

played_by : (worker : ℕ) (c : ChosenView) (w : ℕ) (e : Env) (f : FrameView) (fs : List (List ℤ)) (es : List EffectView) (x : ExitView) → IsPlayedOn worker c.stage → c.stage ≡ played w e f fs es x → worker ≡ w
played_by worker c w e f fs es x on is = subst (IsPlayedOn worker) is on

-- The turn of a batch that has begun was taken back.
module _ (b : BookLockView) (worker n : ℕ) (last : TaskId) (jobs jobs' : List JobFacts) (g : Batch) (asides : List Aside) (env : Env) (knows : BookKnown) (order : Bool) (x : BeginsNext b worker n last jobs jobs' g asides env knows order)
    (new : ExecStateView) (rw : RewindsTo env x.plays.played new) where
  abbrev pl : ExecStateView
  pl = x.plays.played

  same_chosen : x.chosen ≡ rw.chosen
  same_chosen = same_Some x.chosen rw.chosen (sym x.at ∙ rw.at)

  by_worker : rw.worker ≡ worker
  by_worker =
      let h = x.plays.plays.plays in
      let stage = ap (λ (c : ChosenView). c.stage) (same_Some rw.chosen _ (sym rw.at ∙ ap (λ (s : ExecStateView). s.chosen) h.same)) in
      played_by rw.worker rw.chosen h.worker h.env h.frame h.fields h.effects h.exit rw.on stage ∙ sym (ap (worker_of worker) h.was)

  back_same : SameThrough pl rw.back
  back_same = shuffled_through pl rw.back rw.shuffled

  begins_back : BeginsThere rw.back.script rw.back.ready.levels x.knew rw.chosen env knows x.was order
  begins_back =
      subst (λ (c : ChosenView). BeginsThere rw.back.script rw.back.ready.levels x.knew c env knows x.was order) same_chosen
      (subst (λ (ls : List ℕ). BeginsThere rw.back.script ls x.knew x.chosen env knows x.was order) (sym back_same.levels)
      (subst (λ (q : ScriptView). BeginsThere q pl.ready.levels x.knew x.chosen env knows x.was order) (sym back_same.script) x.begins))

  own_task : rw.chosen.job.task ≡ x.plays.sets.is.job.task
  own_task = ap (λ (c : ChosenView). c.job.task) (same_Some rw.chosen _ (sym rw.at ∙ x.plays.sets.is.chosen_is))

  pub begun_ends : (task : TaskId) → task ≡ x.plays.sets.is.job.task → Done (RunsBatch worker n last (Some task) jobs jobs' g.first) (taken_of new g.first.taker (seat_of b knows) order)
  begun_ends task of_task =
      begins_next b worker n last jobs jobs' g.first x.knew x.was x.state x.some x.aside x.next x.plays rw.back rw.shuffled rw.chosen rw.at task (seat_of b knows) order new
      (record {
        env = env;
        same_lock = (refl, refl);
        begins = begins_back;
        job = rw.job;
        same_job = rw.same_job;
        new_is = rw.new_is ∙ ap (λ (w : ℕ). record rw.back { chosen = Some (record { job = rw.job; arrival = rw.chosen.arrival; stage = begun w env }) }) by_worker;
        task_is = of_task ∙ sym own_task;
      })

-- A batch goes on from a state that a worker holds.
module _ (worker : ℕ) (b : BookLockView) (seat : BookSeatView) (order : Bool) (asides : List Aside) (end : ExecStateView) (r : TakenView) (st : StartsBatch worker b seat order asides end r) where
  own_seat : r.seat ≡ seat_of b seat.knows
  own_seat = sym (same_seat b r.seat (seat_of_book b r st.of_book st.together.is_of.2)) ∙ ap (λ (s : BookSeatView). seat_of b s.knows) st.seat_is

  pub starts : (ready : ReadyJobsView BodyView) (knows : BookKnown) → ready ≡ end.ready → knows ≡ seat.knows → IsBatch worker b ready knows order asides (record { first = r; end = end })
  starts ready knows same_ready same_knows =
      let through = play_same worker r.state asides end st.plays in
      record {
        free = st.free;
        together = st.together;
        script_is = st.of_book.1;
        seat_is = own_seat ∙ ap (seat_of b) (sym same_knows);
        order_is = st.order_is;
        levels = ap (λ (x : ReadyJobsView BodyView). x.levels) same_ready ∙ through.levels;
        counted = ap (λ (x : ReadyJobsView BodyView). x.counted) same_ready ∙ through.counted;
        plays = st.plays;
      }

  pub end_script : b.script ≡ end.script
  end_script = st.of_book.1 ∙ sym (play_same worker r.state asides end st.plays).script

  pub seat_there : IsSeatOf b seat
  seat_there = subst (IsSeatOf b) st.seat_is (seat_of_book b r st.of_book st.together.is_of.2)

-- The turn that has begun is one of those that are aside.
module _ (b : BookLockView) (worker n : ℕ) (last : TaskId) (jobs jobs' : List JobFacts) (g : Batch) (xs : List Aside) (done many : ℕ) (env : Env) (knows : BookKnown) (order : Bool) (x : BeginsNext b worker n last jobs jobs' g (between done many xs) env knows order)
    (le : done ≤ many) (within : many ≤ length xs) where
  pub before_many : done < many
  before_many = between_some xs done many x.aside x.others le x.here

  pub in_bounds : done < length xs
  in_bounds = (let lt = before_many in omega (arith, lt, within))

  pub here_is : (d : Aside) → get_or xs done d ≡ x.aside
  here_is d = (next_is xs done many d x.aside x.others before_many within x.here).0

  pub behind_play : PlayAside worker x.next (between (done + 1) many xs) g.end
  behind_play = subst (λ (ys : List Aside). PlayAside worker x.next ys g.end) (sym (next_is xs done many x.aside x.aside x.others before_many within x.here).1) x.play

  pub has_job : (d : Aside) → IsSome (get_or xs done d).chosen.job
  has_job d = subst (λ (a : Aside). IsSome a.chosen.job) (sym (here_is d)) (subst (λ (o : Option (JobView BodyView)). IsSome o) (sym x.plays.sets.is.place) refl)

  pub begun_task : (d : Aside) (task : TaskId) → HasJob (get_or xs done d).chosen.job (λ j. task ≡ j.task) → task ≡ x.plays.sets.is.job.task
  begun_task d task h = task_here task x.plays.sets.is.job x.aside.chosen.job x.plays.sets.is.place (subst (λ (a : Aside). HasJob a.chosen.job (λ j. task ≡ j.task)) (here_is d) h)

  pub was_here : (ys : List Aside) (d : Aside) (now : ExecStateView) → take (done + 1) ys ≡ take (done + 1) xs → length ys ≡ length xs → IsShuffled x.next now → WasAside x.plays.played (get_or ys done d) now
  was_here ys d now same len is =
      let lt = in_bounds in
      let e : get_or ys done d ≡ x.aside = get_taken xs ys done d same (omega (arith, lt, len)) lt ∙ here_is d in
      subst (λ (a : Aside). WasAside x.plays.played a now) (sym e) (was_aside worker x.state x.next x.aside x.plays now is)

-- Where none is aside, no turn was run.
pub none_run : (worker : ℕ) (b : BookLockView) (seat : BookSeatView) (order : Bool) (asides : List Aside) (many : ℕ) (end : ExecStateView) (jobs : List JobFacts) (r : TakenView) → StartsBatch worker b seat order (between 0 many asides) end r → many ≡ 0
    → Done (RunsBatch worker 0 (record { 0 = 0 }) None jobs jobs r) (taken_of end r.taker seat order)
none_run worker b seat order asides many end jobs r st none =
    let sh : IsShuffled r.state end = subst (λ (n : ℕ). PlayAside worker r.state (between 0 n asides) end) none st.plays in
    let d = shuffled_stays r end order st.together st.free sh (λ e. st.order_is ∙ e) in
    subst (λ (x : BookSeatView). Done (RunsBatch worker 0 (record { 0 = 0 }) None jobs jobs r) (taken_of end r.taker x order)) st.seat_is
    (record { together = d.together; does = ((d.does, refl), d.together.is_of) })
