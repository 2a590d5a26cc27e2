-- While a report is followed. No public clause names these.
use Rattle.std.specs.Prelude.{◌≡◌, ℕ, ℤ, ◌+◌, Option, Some, List, [], ◌∷◌, length, slice_get, take, unwrap_or}
use Rattle.std.specs.Arc.{arc_value}
use Rattle.swift_types.specs.declared.id.TaskId.{TaskId}
use Rattle.swift_script.specs.Scripts.{ScriptView, executor_count, executor_start}
use Rattle.swift_interpreter.specs.Frames.{FrameView, effect_views}
use Rattle.swift_interpreter.specs.TurnStates.{exit_view}
use Rattle.swift_interpreter.specs.Turn.{EffectView, ExitView}
use Rattle.swift_journal.specs.Checkpoints.{CheckpointView, FoldedView}
use Rattle.swift_journal.specs.Records.{RecordView}
use Rattle.swift_history.specs.Histories.{Block, LeavesFrame, ReportView, checkpoint_at, folded_of, left_as, records_of}
use Rattle.swift_steps.specs.declared.next_turn.NextTurn.{NextTurn}
use Rattle.swift_steps.specs.declared.played.PlayedTurn.{PlayedTurn}
use Rattle.swift_steps.specs.OpenHistories.{IsFollowed, record_of}
use Rattle.swift_certificate.specs.declared.playing.FoldedTurn.{FoldedTurn}
use Rattle.swift_certificate.specs.declared.playing.ExecutorProgress.{ExecutorProgress}
use Rattle.swift_certificate.specs.declared.replay.Replay.{Replay}

-- The job of a turn that was followed is as it was, but for its frames: the one that ran is as the turn leaves it.
pub record GoesOn (old new : NextTurn) (p : FrameView) (effects : List EffectView) (after : Option FrameView) : Type 0 where
  pub number : new.number ≡ old.number
  pub resume : new.resume ≡ old.resume
  pub script : new.body.script ≡ old.body.script
  pub callers : List FrameView
  pub was : old.body.task.frames ≡ p ∷ callers
  pub is : new.body.task ≡ record { frames = left_as p effects after ∷ callers; outer = old.body.task.outer }

-- A job goes on after a turn that was not played, which did this, ended so and left this frame.
pub record TakesFolded (ready : NextTurn) (effects : List EffectView) (exit : ExitView) (after : Option FrameView) (done : FoldedTurn) : Type 0 where
  pub effects_are : effect_views done.effects.items ≡ effects
  pub exit_is : exit_view done.exit ≡ exit
  pub frame : FrameView
  pub goes_on : GoesOn ready done.ready frame effects after

-- what a checkpoint has of a turn
abbrev pub folded_turn : TaskId → NextTurn → List EffectView → ExitView → Option FrameView → FoldedView
folded_turn task g effects exit after = record { task = task.0; number = g.number; exit = exit; effects = effects; after = after }

-- A turn is the next one of the checkpoint.
pub record Folds (checkpoint : CheckpointView) (old new : ExecutorProgress) (task : TaskId) (ready : NextTurn) (done : FoldedTurn) : Type 0 where
  pub frame : FrameView
  pub after : Option FrameView
  pub there : slice_get checkpoint.folded old.folded ≡ Some (folded_turn task ready (effect_views done.effects.items) (exit_view done.exit) after)
  pub goes_on : GoesOn ready done.ready frame (effect_views done.effects.items) after
  pub leaves : LeavesFrame frame (effect_views done.effects.items) (exit_view done.exit) after
  pub played : new.played ≡ old.played
  pub folded : new.folded ≡ old.folded + 1

-- A turn that was played, of this frame, is the next one of the journal.
pub record IsNext (journal : List RecordView) (old new : ExecutorProgress) (turn : PlayedTurn) (frame : FrameView) : Type 0 where
  pub worker : ℕ
  pub there : slice_get journal old.played ≡ Some (record_of turn worker frame)
  pub played : new.played ≡ old.played + 1
  pub folded : new.folded ≡ old.folded

-- the journal of an executor
abbrev pub journal_at : List (List RecordView) → ℕ → List RecordView
journal_at journals e = unwrap_or (slice_get journals e) []

-- An executor was followed so far: the first turns of its checkpoint and of its journal.
pub record IsProgress (report : ReportView) (blocks : List Block) (e : ℕ) (row : ExecutorProgress) : Type 0 where
  pub folded : folded_of e blocks ≡ take row.folded (checkpoint_at report.checkpoints e).folded
  pub played : records_of e blocks ≡ take row.played (journal_at report.journals e)

-- no turn of an executor was followed
abbrev pub at_the_start : ExecutorProgress
at_the_start = record { folded = 0; played = 0 }

-- some blocks were followed from the checkpoints of the report, and so far are those that it tells of
pub record IsReplay (report : ReportView) (x : Replay) : Type 0 where
  pub blocks : List Block
  pub is : IsFollowed (arc_value x.history.script) report.checkpoints blocks x.history
  pub places : (e : ℕ) (row : ExecutorProgress) → slice_get x.rows.items e ≡ Some row → IsProgress report blocks e row

-- An executor was followed to its end, and has these fields there.
pub record EndsAt (script : ScriptView) (e : ℕ) (row : ExecutorProgress) (own : List (List ℤ)) (journal : List RecordView) (checkpoint : CheckpointView) (fields : List (List ℤ)) : Type 0 where
  pub played : row.played ≡ length journal
  pub folded : row.folded ≡ length checkpoint.folded
  pub start : checkpoint.folded ≡ [] → checkpoint.fields ≡ executor_start script e
  pub fields_are : own ≡ fields

-- each executor was
pub record AreEndedAt (script : ScriptView) (rows : List ExecutorProgress) (owns : List (List (List ℤ))) (report : ReportView) : Type 0 where
  pub rows_many : (length rows ≡ executor_count script) × (length owns ≡ executor_count script)
  pub many : (length report.journals ≡ executor_count script) × (length report.checkpoints ≡ executor_count script) × (length report.fields ≡ executor_count script)
  pub each : (e : ℕ) (row : ExecutorProgress) (own : List (List ℤ)) (journal : List RecordView) (checkpoint : CheckpointView) (fields : List (List ℤ)) → slice_get rows e ≡ Some row → slice_get owns e ≡ Some own → slice_get report.journals e ≡ Some journal → slice_get report.checkpoints e ≡ Some checkpoint → slice_get report.fields e ≡ Some fields → EndsAt script e row own journal checkpoint fields
