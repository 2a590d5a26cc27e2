-- What a turn that was played leaves.
use Rattle.swift_executor.proofs.Prelude.{◌≡◌, ◌<◌, ℕ, ℤ, Some, List, [], ◌∷◌, ap, sym, subst, ◌∙◌, Env, TaskId, Resume, ScriptView, actor_executor, method_actor, method_count, FrameView, effect_views, frame_view, EffectView, ExitView, exit_view, BodyView, HasFirst, IsTurnOf, Polls, TaskView, callers_of, entered, left, JobView, job_facts, JobTurned, JobUnturned, same_Some, chosen_view, stage_of, ChosenStage, Picked, Begun, BelongsTo, ChosenView, ExecStateView, HasChosen, HasPlayed, IsBegun, PutsBack, before_turn, played, PlayedTurn}
use Rattle.swift_executor.specs.declared.chosen.ChosenStage.TheVariants.{Played as PlayedStage}

-- the frames of a task that has had a turn
pub record FramesPlayed (script : ScriptView) (executor : ℕ) (outer : List (ℕ × ℤ)) (fields rows : List (List ℤ)) (resume : Resume) (env : Env) (frame : FrameView) (effects : List EffectView) (exit : ExitView) (old new : List FrameView) : Type 0 where
  pub plays : HasFirst new (λ f. (f.method ≡ frame.method) × IsTurnOf script frame outer fields resume env f (left rows effects exit))
  pub same : frame ∷ callers_of new ≡ old
  pub top : HasFirst new (λ f. actor_executor script (method_actor script f.method) ≡ executor)

frames_played : (script : ScriptView) (executor : ℕ) (outer : List (ℕ × ℤ)) (fields rows : List (List ℤ)) (resume : Resume) (env : Env) (frame : FrameView) (effects : List EffectView) (exit : ExitView) (old new : List FrameView)
    → HasFirst old (λ f. f ≡ frame) → HasFirst old (λ f. actor_executor script (method_actor script f.method) ≡ executor) → Polls script outer old (entered fields resume env) new (left rows effects exit)
    → FramesPlayed script executor outer fields rows resume env frame effects exit old new
frames_played script executor outer fields rows resume env frame effects exit [] new first top polls = absurd first
frames_played script executor outer fields rows resume env frame effects exit (f ∷ callers) [] first top polls = absurd polls
frames_played script executor outer fields rows resume env frame effects exit (f ∷ callers) (g ∷ others) first top polls =
    let is = subst (λ (p : FrameView). IsTurnOf script p outer fields resume env g (left rows effects exit)) first polls.1 in
    record {
      plays = (is.0, is);
      same = ap (λ (p : FrameView). p ∷ others) (sym first) ∙ ap (λ (ps : List FrameView). f ∷ ps) polls.0;
      top = ap (λ (m : ℕ). actor_executor script (method_actor script m)) (is.0 ∙ sym (ap (λ (p : FrameView). p.method) first)) ∙ top;
    }

-- what is known of a job that has had its turn
pub record IsTurned (script : ScriptView) (executor : ℕ) (fields : List (List ℤ)) (env : Env) (worker : ℕ) (old new : JobView BodyView) (p : PlayedTurn) : Type 0 where
  pub plays : HasPlayed script fields new (played worker env (frame_view p.frame) p.fields.after (effect_views p.effects.items) (exit_view p.exit))
  pub same_job : before_turn (played worker env (frame_view p.frame) p.fields.after (effect_views p.effects.items) (exit_view p.exit)) new ≡ job_facts old
  pub belongs : BelongsTo script executor new

pub turned : (script : ScriptView) (executor : ℕ) (fields : List (List ℤ)) (env : Env) (worker : ℕ) (old new : JobView BodyView) (p : PlayedTurn) → BelongsTo script executor old → JobTurned old new fields env p
    → IsTurned script executor fields env worker old new p
turned script executor fields env worker old new p belongs is =
    let rows = p.fields.after in
    let frame = frame_view p.frame in
    let effects = effect_views p.effects.items in
    let exit = exit_view p.exit in
    let polls = subst (λ (s : ScriptView). Polls s old.body.task.outer old.body.task.frames (entered fields old.resume env) new.body.task.frames (left rows effects exit)) belongs.script_is is.body.turn in
    let h = frames_played script executor old.body.task.outer fields rows old.resume env frame effects exit old.body.task.frames new.body.task.frames is.body.frame belongs.top polls in
    let outer : new.body.task.outer ≡ old.body.task.outer = is.body.outer in
    let one = subst (λ (o : List (ℕ × ℤ)). HasFirst new.body.task.frames (λ f. (f.method ≡ frame.method) × IsTurnOf script frame o fields old.resume env f (left rows effects exit))) (sym outer) h.plays in
    let two = subst (λ (r : Resume). HasFirst new.body.task.frames (λ f. (f.method ≡ frame.method) × IsTurnOf script frame new.body.task.outer fields r env f (left rows effects exit))) (sym is.resume) one in
    record {
      plays = (subst (λ (s : ScriptView). p.frame.method.0 < method_count s) belongs.script_is is.body.method, two);
      same_job =
          ap (λ (t : TaskId). record { task = t.0; number = new.number; resume = new.resume; frames = record { frames = frame ∷ callers_of new.body.task.frames; outer = new.body.task.outer } }) is.task
          ∙ ap (λ (n : ℕ). record { task = old.task.0; number = n; resume = new.resume; frames = record { frames = frame ∷ callers_of new.body.task.frames; outer = new.body.task.outer } }) is.number
          ∙ ap (λ (r : Resume). record { task = old.task.0; number = old.number; resume = r; frames = record { frames = frame ∷ callers_of new.body.task.frames; outer = new.body.task.outer } }) is.resume
          ∙ ap (λ (fs : List FrameView). record { task = old.task.0; number = old.number; resume = old.resume; frames = record { frames = fs; outer = new.body.task.outer } }) h.same
          ∙ ap (λ (o : List (ℕ × ℤ)). record { task = old.task.0; number = old.number; resume = old.resume; frames = record { frames = old.body.task.frames; outer = o } }) outer;
      belongs = record { script_is = is.body.script ∙ belongs.script_is; top = h.top };
    }

-- a job that has had no turn is one of the executor
pub unturned : (script : ScriptView) (executor : ℕ) (old new : JobView BodyView) → BelongsTo script executor old → JobUnturned old new → BelongsTo script executor new
unturned script executor old new belongs is = record {
  script_is = is.body.script ∙ belongs.script_is;
  top = subst (λ (t : TaskView). HasFirst t.frames (λ f. actor_executor script (method_actor script f.method) ≡ executor)) (sym is.body.task) belongs.top;
}

-- nothing was played where a turn has only begun
pub begun_plays : (script : ScriptView) (fields : List (List ℤ)) (j : JobView BodyView) (p p' : PlayedTurn) (stage : ChosenStage) → IsBegun (stage_of p stage) → HasPlayed script fields j (stage_of p' stage)
begun_plays script fields j p p' Picked is = absurd is
begun_plays script fields j p p' (Begun worker env) is = tt
begun_plays script fields j p p' (PlayedStage worker env) is = absurd is

-- such a job is seen as it was
unturned_view : (j j' : JobView BodyView) → JobUnturned j j' → job_facts j' ≡ job_facts j
unturned_view j j' is =
    ap (λ (t : TaskId). record { task = t.0; number = j'.number; resume = j'.resume; frames = j'.body.task }) is.task
    ∙ ap (λ (n : ℕ). record { task = j.task.0; number = n; resume = j'.resume; frames = j'.body.task }) is.number
    ∙ ap (λ (r : Resume). record { task = j.task.0; number = j.number; resume = r; frames = j'.body.task }) is.resume
    ∙ ap (λ (t : TaskView). record { task = j.task.0; number = j.number; resume = j.resume; frames = t }) is.body.task

unturned_before : (p p' : PlayedTurn) (stage : ChosenStage) (j j' : JobView BodyView) → IsBegun (stage_of p stage) → JobUnturned j j' → before_turn (stage_of p' stage) j' ≡ before_turn (stage_of p stage) j
unturned_before p p' Picked j j' begun is = absurd begun
unturned_before p p' (Begun worker env) j j' begun is = unturned_view j j' is
unturned_before p p' (PlayedStage worker env) j j' begun is = absurd begun

-- a job that has had no turn goes back as it was chosen
pub back_unturned : (s new : ExecStateView) (p p' : PlayedTurn) (arrival : ℕ) (stage : ChosenStage) (j j' : JobView BodyView) → s.chosen ≡ Some (chosen_view p arrival stage j) → IsBegun (stage_of p stage) → JobUnturned j j'
    → HasChosen (record s { chosen = Some (chosen_view p' arrival stage j') }) (PutsBack (record s { chosen = Some (chosen_view p' arrival stage j') }) new) → HasChosen s (PutsBack s new)
back_unturned s new p p' arrival stage j j' at begun is back =
    let mid : ExecStateView = record s { chosen = Some (chosen_view p' arrival stage j') } in
    let h : PutsBack mid new (chosen_view p' arrival stage j') = subst (λ (v : ChosenView). PutsBack mid new v) (sym (same_Some (chosen_view p' arrival stage j') back.0 back.1)) back.2 in
    (chosen_view p arrival stage j, at, record { job = h.job; same_job = h.same_job ∙ unturned_before p p' stage j j' begun is; front = h.front; same = h.same })
