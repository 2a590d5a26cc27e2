-- How the chosen job of an executor is seen. No public clause names these.
use Rattle.std.specs.Prelude.{ℕ, Option, Some, None}
use Rattle.swift_interpreter.specs.Frames.{frame_view, effect_views}
use Rattle.swift_interpreter.specs.TurnStates.{exit_view}
use Rattle.swift_job.specs.Job.{JobView}
use Rattle.swift_turn.specs.Body.{BodyView}
use Rattle.swift_executor.specs.declared.chosen.Chosen.{Chosen}
use Rattle.swift_executor.specs.declared.chosen.PlayedTurn.{PlayedTurn}
use Rattle.swift_executor.specs.declared.chosen.ChosenStage.{ChosenStage}
use Rattle.swift_executor.specs.declared.chosen.ChosenStage.TheVariants.{Picked, Begun, Played as PlayedStage}
use Rattle.swift_executor.specs.State.{ChosenView, ChosenStageView, picked, begun, played}

-- how far it is, with what its turn has left where it was played
abbrev pub stage_of : PlayedTurn → ChosenStage → ChosenStageView
stage_of p Picked = picked
stage_of p (Begun worker env) = begun worker env
stage_of p (PlayedStage worker env) = played worker env (frame_view p.frame) p.fields.after (effect_views p.effects.items) (exit_view p.exit)

-- a job with what is kept beside it
abbrev pub chosen_view : PlayedTurn → ℕ → ChosenStage → JobView BodyView → ChosenView
chosen_view p arrival stage job = record { job = job; arrival = arrival; stage = stage_of p stage }

-- the job of a place, where there is one
abbrev pub chosen_at : PlayedTurn → ℕ → ChosenStage → Option (JobView BodyView) → Option ChosenView
chosen_at p arrival stage None = None
chosen_at p arrival stage (Some job) = Some (chosen_view p arrival stage job)

abbrev pub chosen_of : PlayedTurn → Chosen → Option ChosenView
chosen_of p c = chosen_at p c.arrival c.stage c.job
