-- The frame of a turn in a job, and in a record (our own).
use Rattle.std.specs.Prelude.{◌≡◌, ℕ, ℤ, Option, Some, None, List}
use Rattle.swift_types.specs.declared.env.Env.{Env}
use Rattle.swift_types.specs.declared.outcome.Resume.{Resume}
use Rattle.swift_script.specs.Scripts.{ScriptView}
use Rattle.swift_interpreter.specs.Frames.{FrameView}
use Rattle.swift_interpreter.specs.Turn.{EffectView, ExitView, returning, failing}
use Rattle.swift_turn.specs.Body.{IsTurnOf, advanced, left}
use Rattle.swift_history.specs.Histories.{left_as}

-- what a record has of the frame after a turn: none where its exit leaves it for good
abbrev pub kept_frame : ExitView → FrameView → Option FrameView
kept_frame (returning v) p = None
kept_frame (failing f) p = None
kept_frame _ p = Some p

-- What follows from the exit of a turn is the same by the frame that has had the turn as by its record.
abbrev pub FramesGoOn : Type 0
FramesGoOn = (script : ScriptView) (before after : FrameView) (callers : List FrameView) (outer : List (ℕ × ℤ)) (fields fields' : List (List ℤ)) (resume : Resume) (env : Env) (effects : List EffectView) (exit : ExitView)
    → IsTurnOf script before outer fields resume env after (left fields' effects exit)
    → advanced script after callers outer exit ≡ advanced script (left_as before effects (kept_frame exit after)) callers outer exit
