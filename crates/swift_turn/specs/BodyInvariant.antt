-- What a body is inside. No public clause names these.
use Rattle.std.specs.Prelude.{◌≡◌, ◌<◌, Bool, true, false, List, [], ◌∷◌}
use Rattle.std.specs.List.{AllByRecursion}
use Rattle.script_code.specs.Seen.{rows_of}
use Rattle.swift_script.specs.Scripts.{ScriptView, method_count}
use Rattle.swift_interpreter.specs.Frames.{FrameView, frame_view, effect_views}
use Rattle.swift_interpreter.specs.TurnStates.{exit_view}
use Rattle.swift_interpreter.specs.declared.turn_state.TurnState.{TurnState}
use Rattle.swift_turn.specs.Body.{PhaseView, idle, entered, left, out_of_memory}
use Rattle.swift_turn.specs.declared.phase.Phase.{Phase}
use Rattle.swift_turn.specs.declared.phase.Phase.TheVariants as phase

-- the phase, with the fields and effects of the turn that is under way
abbrev pub phase_of : Phase → TurnState → PhaseView
phase_of phase.Idle t = idle
phase_of (phase.Entered resume env) t = entered (rows_of t.fields.items) resume env
phase_of (phase.Played exit) t = left (rows_of t.fields.items) (effect_views t.effects.items) (exit_view exit)
phase_of phase.OutOfMemory t = out_of_memory (rows_of t.fields.items)

-- the frames of a task, which has none once it has ended
abbrev pub frames_of : Bool → TurnState → List FrameView → List FrameView
frames_of true t callers = frame_view t.frame ∷ callers
frames_of false t callers = []

-- each frame is of a method of the script
abbrev pub Fits : ScriptView → FrameView → Type 0
Fits script p = p.method < method_count script

pub record BodyInvariant (script : ScriptView) (running : Bool) (top : FrameView) (callers : List FrameView) : Type 0 where
  pub here : Fits script top
  pub below : AllByRecursion (Fits script) callers
  pub ended : running ≡ false → callers ≡ []
