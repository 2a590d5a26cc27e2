-- Turns that were folded, and checkpoints (our own).
use Rattle.std.specs.Prelude.{ℕ, ℤ, Option, List, ◌++◌, map}
use Rattle.swift_interpreter.specs.Frames.{FrameView, effect_views, frame_if}
use Rattle.swift_interpreter.specs.Turn.{EffectView, ExitView}
use Rattle.swift_interpreter.specs.TurnStates.{exit_view}
use Rattle.swift_journal.specs.Records.{RecordView}
use Rattle.swift_journal.specs.declared.folded.Folded.{Folded}

-- what is left of a turn that was folded: which turn it was, how it ended, what it did beside its fields, and the frame after
-- it, where one goes on
pub record FoldedView : Type 0 where
  pub task : ℕ
  pub number : ℕ
  pub exit : ExitView
  pub effects : List EffectView
  pub after : Option FrameView

-- what is left of the turn of a record once it is folded
abbrev pub folded_of : RecordView → FoldedView
folded_of r = record { task = r.task; number = r.number; exit = r.exit; effects = r.effects; after = r.after }

-- what is left of a turn that was folded, as callers see it
abbrev pub folded_view : Folded → FoldedView
folded_view t = record { task = t.task.0; number = t.number; exit = exit_view t.exit; effects = effect_views t.effects.items; after = frame_if t.after }

-- the fields that a journal is replayed from, and the turns before it, in order
pub record CheckpointView : Type 0 where
  pub fields : List (List ℤ)
  pub folded : List FoldedView

-- a checkpoint, and the turns for which it has room: they can be folded without memory
pub record CheckpointRoomView : Type 0 where
  pub view : CheckpointView
  pub room : List FoldedView

-- these records are folded, after which the fields are these
abbrev pub folds : CheckpointView → List RecordView → List (List ℤ) → CheckpointView
folds c rs fields = record { fields = fields; folded = c.folded ++ map folded_of rs }
