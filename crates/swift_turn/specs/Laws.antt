-- A law of calls: bindings end with the method that made them (SE-0311).
use Rattle.std.specs.Prelude.{◌≡◌, ℕ, ◌<◌, ℤ, List, ◌∷◌, ◌++◌, length}
use Rattle.swift_types.specs.declared.limits.TheConstants.{FRAMES}
use Rattle.swift_types.specs.declared.outcome.Ending.{Ending}
use Rattle.swift_types.specs.declared.outcome.Resume.{Resume}
use Rattle.swift_script.specs.Scripts.{ScriptView}
use Rattle.swift_interpreter.specs.Frames.{FrameView}
use Rattle.swift_interpreter.specs.Turn.{InvocationView}
use Rattle.swift_turn.specs.Body.{called, opening, resumed}

-- A method that is called finds the bindings that stand in its caller. Where it is left, its caller has its own bindings
-- again, and finds those that it found before: those of the method are gone.
pub record BindingsEnd : Type 0 where
  pub found : (script : ScriptView) (p : FrameView) (callers : List FrameView) (outer : List (ℕ × ℤ)) (c : InvocationView) → length (p ∷ callers) < FRAMES
      → (called script p callers outer c).task ≡ record { frames = opening script c.method c.args p.made p.opened ∷ p ∷ callers; outer = p.own ++ outer }
  pub gone : (script : ScriptView) (left p : FrameView) (callers : List FrameView) (outer : List (ℕ × ℤ)) (resume : Resume) (ending : Ending)
      → (resumed script left (p ∷ callers) (p.own ++ outer) resume ending).task ≡ record { frames = record p { made = left.made; opened = left.opened } ∷ callers; outer = outer }
