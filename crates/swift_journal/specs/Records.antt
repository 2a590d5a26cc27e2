-- What a journal says of a turn.
use Rattle.std.specs.Prelude.{ℕ, ℤ, Option, Some, None, List}
use denote.Bor.{Bor}
use Rattle.swift_types.specs.declared.outcome.Resume.{Resume}
use Rattle.swift_types.specs.declared.env.Env.{Env}
use Rattle.swift_interpreter.specs.Frames.{FrameView, frame_view, effect_views, frame_if}
use Rattle.swift_interpreter.specs.Turn.{EffectView, ExitView, calling, waiting, asking_next, closing, yielding, returning, failing}
use Rattle.swift_interpreter.specs.TurnStates.{exit_view}
use Rattle.swift_interpreter.specs.declared.frame.Frame.{Frame}
use Rattle.swift_journal.specs.declared.brief.BriefExit.{BriefExit}
use Rattle.swift_journal.specs.declared.brief.BriefExit.TheVariants.{Call, Wait, Next, Close, Yield, Return, Fault}
use Rattle.swift_journal.specs.declared.record.Record.{Record}
use Rattle.swift_journal.specs.declared.record.OwnedRecord.{OwnedRecord}

-- a turn of a task, as the journal of its executor has it
pub record RecordView : Type 0 where
  pub task : ℕ
  -- the turn's number among the turns of its task
  pub number : ℕ
  pub worker : ℕ
  -- the frame as it was before the turn
  pub frame : FrameView
  -- the bindings that stood when the frame began, the innermost first
  pub outer : List (ℕ × ℤ)
  -- what the turn began with, what it was given, how it ended, and what it did beside its fields
  pub resume : Resume
  pub env : Env
  pub exit : ExitView
  pub effects : List EffectView
  -- the frame as the turn left it, where it goes on
  pub after : Option FrameView

-- a frame behind a reference, as callers see it, where there is one
abbrev pub frame_if_lent : Option (Bor Frame) → Option FrameView
frame_if_lent None = None
frame_if_lent (Some f) = Some (frame_view f.now)

-- a record whose parts are behind references, as callers see it
abbrev pub record_view : Record → RecordView
record_view r = record {
  task = r.task.0;
  number = r.number;
  worker = r.worker;
  frame = frame_view r.frame.now;
  outer = r.outer.now;
  resume = r.resume;
  env = r.env;
  exit = exit_view r.exit.now;
  effects = effect_views r.effects.now;
  after = frame_if_lent r.after;
}

-- a record that has its parts, as callers see it
abbrev pub owned_view : OwnedRecord → RecordView
owned_view r = record {
  task = r.task.0;
  number = r.number;
  worker = r.worker;
  frame = frame_view r.frame;
  outer = r.outer;
  resume = r.resume;
  env = r.env;
  exit = exit_view r.exit;
  effects = effect_views r.effects.items;
  after = frame_if r.after;
}

-- an exit without the arguments of a call
abbrev pub brief_of : ExitView → BriefExit
brief_of (calling i) = Call (record { 0 = i.actor }) (record { 0 = i.method })
brief_of (waiting t) = Wait t
brief_of (asking_next g) = Next g
brief_of (closing g f) = Close g f
brief_of yielding = Yield
brief_of (returning v) = Return v
brief_of (failing f) = Fault f
