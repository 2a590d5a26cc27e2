-- Each step of a replay follows one block more.
use Rattle.swift_certificate.proofs.Prelude.{◌≡◌, ℕ, ℤ, ◌+◌, List, [], ◌∷◌, ◌++◌, length, get_or, map, replicate, refl, sym, subst, ap, ◌∙◌, ◌<◌, zero, suc, Option, Some, None, slice_get, slice_set, take, unwrap_or, Result, Ok, Err, IfOk, IfSome, arc_value, none-some, slice_get_read, slice_get-map, TaskId, ScriptView, actor_executor, method_actor, FrameView, effect_views, EffectView, ExitView, exit_view, life_of, CheckpointRoomView, CheckpointView, FoldedView, RecordView, BodyView, IfRunning, TaskView, Block, ran, folded, FoldedStands, ReportView, checkpoint_at, folded_in, no_checkpoint, record_in, records_of, NextTurn, PlayedTurn, given_view, job_of, Applies, Follows, IsAtRest, IsFollowed, RunsAt, StartsFrom, Takes, record_of, rows_at, at_rest, followed_is, own_led, rest_after, same_rows, same_one, ExecutorProgress, FoldedTurn, Replay, Folds, IsProgress, IsReplay, at_the_start, folded_turn, journal_at}
use Rattle.std.specs.Option.{option_map}
use Rattle.swift_types.specs.declared.env.Env.{Env}
use Rattle.swift_types.specs.declared.outcome.Resume.{Resume}
use Rattle.swift_events.specs.declared.life.JobStage.TheVariants.{Begun}
use Rattle.swift_job.specs.Job.{JobView}
use Rattle.swift_tasks.specs.Books.{BookView, IsEndOf, end_of_frames}
use Rattle.swift_tasks.specs.Refusals.{refusal_of_apply}
use Rattle.swift_course.specs.Course.{standing}
use Rattle.swift_steps.specs.declared.history.OpenHistory.{OpenHistory}
use Rattle.swift_steps.proofs.Led.{Turned, fields_stay, led_turn, turn_stands}
use Rattle.swift_certificate.proofs.Places.{others_folded, others_played, place_folded, place_played, place_stays, places_set}

-- before any turn was followed

pub checkpoint_view : (cs : List CheckpointRoomView) (e : ℕ) (c : CheckpointRoomView) → slice_get cs e ≡ Some c → checkpoint_at (map (λ (x : CheckpointRoomView). x.view) cs) e ≡ c.view
checkpoint_view cs e c at = ap (λ (o : Option CheckpointView). unwrap_or o no_checkpoint) (slice_get-map (λ (x : CheckpointRoomView). x.view) cs e ∙ ap (option_map (λ (x : CheckpointRoomView). x.view)) at)

fields_of_some : (o : Option CheckpointRoomView) (rows : List (List ℤ)) → option_map (λ (x : CheckpointRoomView). x.view.fields) o ≡ Some rows → rows ≡ (unwrap_or (option_map (λ (x : CheckpointRoomView). x.view) o) no_checkpoint).fields
fields_of_some None rows is = absurd (none-some rows is)
fields_of_some (Some c) rows is = sym (same_one c.view.fields rows is)

-- the fields of the checkpoints are there
pub starts_from : (cs : List CheckpointRoomView) (fields : List (List (List ℤ))) → fields ≡ map (λ (x : CheckpointRoomView). x.view.fields) cs → StartsFrom (map (λ (x : CheckpointRoomView). x.view) cs) fields
starts_from cs fields are e rows at =
    fields_of_some (slice_get cs e) rows (sym (slice_get-map (λ (x : CheckpointRoomView). x.view.fields) cs e) ∙ ap (λ (fs : List (List (List ℤ))). slice_get fs e) (sym are) ∙ at)
    ∙ ap (λ (o : Option CheckpointView). (unwrap_or o no_checkpoint).fields) (sym (slice_get-map (λ (x : CheckpointRoomView). x.view) cs e))

start_at : (n e : ℕ) (row : ExecutorProgress) → slice_get (replicate n at_the_start) e ≡ Some row → at_the_start ≡ row
start_at zero e row at = absurd (none-some row at)
start_at (suc n) zero row at = same_one at_the_start row at
start_at (suc n) (suc e) row at = start_at n e row at

pub places_first : (report : ReportView) (rows : List ExecutorProgress) (n : ℕ) → rows ≡ replicate n at_the_start → (e : ℕ) (row : ExecutorProgress) → slice_get rows e ≡ Some row → IsProgress report [] e row
places_first report rows n are e row at =
    let first = start_at n e row (ap (λ (rs : List ExecutorProgress). slice_get rs e) (sym are) ∙ at) in
    subst (IsProgress report [] e) first (record { folded = refl; played = refl })

-- a step that runs no turn
pub replay_stays : (report : ReportView) (x y : Replay) (b : Block) → IsReplay report x → Follows x.history y.history b → y.rows ≡ x.rows → ((e : ℕ) → record_in e b ≡ None) → ((e : ℕ) → folded_in e b ≡ None) → IsReplay report y
replay_stays report x y b is follows same none none' = record {
  blocks = is.blocks ++ b ∷ [];
  is = subst (λ (s : ScriptView). IsFollowed s report.checkpoints (is.blocks ++ b ∷ []) y.history) (sym (ap arc_value follows.script_is)) (follows.leads _ report.checkpoints is.blocks is.is);
  places = λ e row at. place_stays report is.blocks b e row (none e) (none' e) (is.places e row (subst (λ (rs : _). slice_get rs.items e ≡ Some row) same at));
}

-- a turn that was played
pub replay_ran : (report : ReportView) (x y : Replay) (turn : PlayedTurn) (worker : ℕ) (frame : FrameView) (k : ℕ) (row row' : ExecutorProgress)
    → IsReplay report x → Follows x.history y.history (ran turn.place (record_of turn worker frame)) → turn.place ≡ k → slice_get x.rows.items k ≡ Some row → y.rows.items ≡ slice_set x.rows.items k row'
    → slice_get (journal_at report.journals k) row.played ≡ Some (record_of turn worker frame) → row'.played ≡ row.played + 1 → row'.folded ≡ row.folded → IsReplay report y
replay_ran report x y turn worker frame k row row' is follows here at set there played kept =
    let bs = is.blocks in
    let r = record_of turn worker frame in
    let own = place_played report bs k row row' r (is.places k row at) there played kept in
    record {
      blocks = bs ++ ran k r ∷ [];
      is = subst (λ (s : ScriptView). IsFollowed s report.checkpoints (bs ++ ran k r ∷ []) y.history) (sym (ap arc_value follows.script_is))
          (subst (λ (n : ℕ). IsFollowed (arc_value x.history.script) report.checkpoints (bs ++ ran n r ∷ []) y.history) here (follows.leads (arc_value x.history.script) report.checkpoints bs is.is));
      places = λ e q is_at. places_set (IsProgress report bs) (IsProgress report (bs ++ ran k r ∷ [])) x.rows.items k row row' at own (others_played report bs k r) is.places e q
          (ap (λ (rs : List ExecutorProgress). slice_get rs e) (sym set) ∙ is_at);
    }

-- a turn of a checkpoint
module _ (report : ReportView) (x : Replay) (m : OpenHistory) (y : Replay) (k : ℕ) (t : TaskId) (g : NextTurn) (env : Env) (row row' : ExecutorProgress) (done : FoldedTurn)
    (is : IsReplay report x) (takes : Takes x.history m t g) (same : m.fields ≡ x.history.fields) (has_begun : (life_of t.0 x.history.book.log).stage ≡ Some (Begun env)) (at : RunsAt (arc_value x.history.script) x.history.tasks.items t k)
    (folds : Folds (checkpoint_at report.checkpoints k) row row' t g done) (none : row.played ≡ 0) (here : slice_get x.rows.items k ≡ Some row) (set : y.rows.items ≡ slice_set x.rows.items k row')
    (a : Applies m y.history t done.ready (effect_views done.effects.items) (exit_view done.exit)) where
  abbrev b : BookView
  b = x.history.book

  abbrev body : BodyView
  body = done.ready.body

  abbrev effects : List EffectView
  effects = effect_views done.effects.items

  abbrev exit : ExitView
  exit = exit_view done.exit

  abbrev p : FrameView
  p = folds.frame

  abbrev turn : FoldedView
  turn = folded_turn t g effects exit folds.after

  abbrev bs : List Block
  bs = is.blocks

  abbrev rest : IsAtRest x.history
  rest = at_rest _ report.checkpoints is.blocks x.history is.is

  abbrev j : JobView BodyView
  j = record (job_of t g) { body = body }

  job_is : job_of t done.ready ≡ j
  job_is =
      ap (λ (n : ℕ). record { task = t; number = n; resume = done.ready.resume; body = body }) folds.goes_on.number
      ∙ ap (λ (r : Resume). record { task = t; number = g.number; resume = r; body = body }) folds.goes_on.resume

  of_book : g.body.script ≡ b.script
  of_book = (rest.scripts t.0 g takes.was).script_is ∙ sym rest.book_is

  on : actor_executor b.script (method_actor b.script p.method) ≡ k
  on =
      let runs = subst (λ (fs : List FrameView). IfRunning fs (λ q. actor_executor (arc_value x.history.script) (method_actor g.body.script q.method) ≡ k)) folds.goes_on.was (at.on g takes.was) in
      subst (λ (sc : ScriptView). actor_executor sc (method_actor b.script p.method) ≡ k) (sym rest.book_is)
      (subst (λ (sc : ScriptView). actor_executor (arc_value x.history.script) (method_actor sc p.method) ≡ k) of_book runs)

  turned : Turned b y.history.book x.history.tasks.items m.tasks.items y.history.tasks.items t g k env body p folds.goes_on.callers effects exit folds.after a.jobs
  turned = record {
    was = takes.was;
    took = takes.rest;
    has_begun = has_begun;
    first = folds.goes_on.was;
    on = on;
    fits = subst (λ (i : JobView BodyView). refusal_of_apply b.script b.log i effects exit ≡ None) job_is
        (subst (λ (c : BookView). refusal_of_apply c.script c.log (job_of t done.ready) effects exit ≡ None) takes.book_is a.fits);
    leads = ap (λ (v : TaskView). end_of_frames b (record j { body = record body { task = v } }) effects exit v.frames) folds.goes_on.is;
    ends = subst (λ (i : JobView BodyView). IsEndOf b [] i effects exit y.history.book.log y.history.book.held a.jobs) job_is
        (subst (λ (c : BookView). IsEndOf c [] (job_of t done.ready) effects exit y.history.book.log y.history.book.held a.jobs) takes.book_is a.ends);
    given = a.given;
  }

  followed : IsFollowed (arc_value y.history.script) report.checkpoints (bs ++ folded k turn ∷ []) y.history
  followed =
      let led = own_led _ report.checkpoints bs x.history is.is in
      let stand : FoldedStands b.script (standing b.script bs) k turn = record {
        job = given_view t.0 g;
        env = env;
        frame = p;
        stands = turn_stands b y.history.book report.checkpoints bs x.history.tasks.items m.tasks.items y.history.tasks.items (rows_at x.history) x.history.roots t g k env body p folds.goes_on.callers effects exit folds.after a.jobs led turned;
        leaves = folds.leaves;
      } in
      let no_record : records_of k bs ≡ [] = (is.places k row here).played ∙ ap (λ n. take n (journal_at report.journals k)) none in
      followed_is _ report.checkpoints (bs ++ folded k turn ∷ []) y.history (record y.history.book { script = b.script }) (rows_at x.history) x.history.roots refl
      (rest_after x.history m y.history t g done.ready effects exit rest takes a)
      (ap (λ (sc : ScriptView). record y.history.book { script = sc }) (a.book_is ∙ ap (λ (c : BookView). c.script) takes.book_is))
      (same_rows x.history y.history (a.fields_are ∙ same)) (a.roots_are ∙ takes.roots_are)
      (led_turn b y.history.book report.checkpoints bs x.history.tasks.items m.tasks.items y.history.tasks.items (rows_at x.history) x.history.roots t g k env body p folds.goes_on.callers effects exit folds.after a.jobs led turned
      (folded k turn) (rows_at x.history) refl refl (stand, no_record) (λ e rows seen. led.fields_are e rows seen ∙ sym (fields_stay b.script report.checkpoints bs (folded k turn) e refl)))

  pub replay_folded : IsReplay report y
  replay_folded =
      let own = place_folded report bs k row row' turn (is.places k row here) folds.there folds.played folds.folded in
      record {
        blocks = bs ++ folded k turn ∷ [];
        is = followed;
        places = λ e q is_at. places_set (IsProgress report bs) (IsProgress report (bs ++ folded k turn ∷ [])) x.rows.items k row row' here own (others_folded report bs k turn) is.places e q
            (ap (λ (rs : List ExecutorProgress). slice_get rs e) (sym set) ∙ is_at);
      }

-- what holds of what is there
pub some_of : {A : Type 0} (o : Option A) (x : A) (P : A → Type 0) → o ≡ Some x → IfSome o P → P x
some_of o x P is holds = subst (λ (v : Option _). IfSome v P) is holds

-- an answer that holds so holds otherwise too
pub map_ok : {A E : Type 0} (r : Result A E) (P Q : A → Type 0) → ((x : A) → P x → Q x) → IfOk r P → IfOk r Q
map_ok (Ok x) P Q f is = f x is
map_ok (Err e) P Q f is = tt

pub journal_is : (js : List (List RecordView)) (k : ℕ) (j : List RecordView) → k < length js → j ≡ get_or js k j → journal_at js k ≡ j
journal_is js k j lt is = ap (λ (o : Option (List RecordView)). unwrap_or o []) (slice_get_read js (length js) k j refl lt is)

pub checkpoint_is : (cs : List CheckpointRoomView) (k : ℕ) (c : CheckpointRoomView) → k < length cs → c ≡ get_or cs k c → checkpoint_at (map (λ (x : CheckpointRoomView). x.view) cs) k ≡ c.view
checkpoint_is cs k c lt is = checkpoint_view cs k c (slice_get_read cs (length cs) k c refl lt is)
