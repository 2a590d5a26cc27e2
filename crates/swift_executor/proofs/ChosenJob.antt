-- What the chosen job as it is seen says of its place.
use Rattle.swift_executor.proofs.Prelude.{◌≡◌, ◌<◌, ℕ, ℤ, Option, Some, None, MatchOption, List, [], ◌∷◌, refl, ap, sym, subst, ◌∙◌, same_Some, FrameView, JobView, BodyView, HasFirst, HasFrames, IsRunning, ScriptView, actor_executor, method_actor, method_count, CanGoBack, StageIsBegun, StageIsPlayed, BelongsTo, ChosenView, HasPlayed, IsBegun, IsPlayed, chosen_at, chosen_view, stage_of, PlayedTurn, ChosenStage, Picked, Begun}
use Rattle.swift_executor.specs.declared.chosen.ChosenStage.TheVariants.{Played as PlayedStage}

-- a job that is seen lies in its place, with what is kept beside it
pub record IsSeen (p : PlayedTurn) (arrival : ℕ) (stage : ChosenStage) (place : Option (JobView BodyView)) (v : ChosenView) : Type 0 where
  pub job : place ≡ Some v.job
  pub view : v ≡ chosen_view p arrival stage v.job

pub seen : (p : PlayedTurn) (arrival : ℕ) (stage : ChosenStage) (place : Option (JobView BodyView)) (v : ChosenView) → chosen_at p arrival stage place ≡ Some v → IsSeen p arrival stage place v
seen p arrival stage None v is = absurd (subst (λ (o : Option ChosenView). MatchOption o (Unit {0}) (λ _. ⊥)) is tt)
seen p arrival stage (Some j) v is =
    let e = same_Some (chosen_view p arrival stage j) v is in
    record { job = ap (λ (x : ChosenView). Some x.job) e; view = sym e ∙ ap (λ (x : ChosenView). chosen_view p arrival stage x.job) e }

-- where none is seen, none is there
pub free : (p : PlayedTurn) (arrival : ℕ) (stage : ChosenStage) (place : Option (JobView BodyView)) → chosen_at p arrival stage place ≡ None → place ≡ None
free p arrival stage None is = refl
free p arrival stage (Some j) is = absurd (subst (λ (o : Option ChosenView). MatchOption o ⊥ (λ _. Unit {0})) is tt)

-- a job of the executor has not ended
first_runs : (P : FrameView → Type 0) (frames : List FrameView) → HasFirst frames P → HasFrames frames
first_runs P [] first = absurd first
first_runs P (f ∷ frames) first = tt

pub runs : (script : ScriptView) (executor : ℕ) (j : JobView BodyView) → BelongsTo script executor j → IsRunning j.body
runs script executor j is = first_runs (λ f. actor_executor script (method_actor script f.method) ≡ executor) j.body.task.frames is.top

-- how far it is
pub begun_stage : (p : PlayedTurn) (stage : ChosenStage) → IsBegun (stage_of p stage) → StageIsBegun stage
begun_stage p Picked is = is
begun_stage p (Begun worker env) is = tt
begun_stage p (PlayedStage worker env) is = is

pub played_stage : (p : PlayedTurn) (stage : ChosenStage) → IsPlayed (stage_of p stage) → StageIsPlayed stage
played_stage p Picked is = is
played_stage p (Begun worker env) is = is
played_stage p (PlayedStage worker env) is = tt

-- a frame that was kept may go back
pub can_go : (script : ScriptView) (executor : ℕ) (fields : List (List ℤ)) (j : JobView BodyView) (p : PlayedTurn) (stage : ChosenStage) → BelongsTo script executor j → HasPlayed script fields j (stage_of p stage) → CanGoBack j p stage
can_go script executor fields j p Picked belongs plays = tt
can_go script executor fields j p (Begun worker env) belongs plays = tt
can_go script executor fields j p (PlayedStage worker env) belongs plays = subst (λ (s : ScriptView). p.frame.method.0 < method_count s) (sym belongs.script_is) plays.0
