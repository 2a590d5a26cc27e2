-- The bindings of a caller, through a call.
use Rattle.std.proofs.Common.{◌≡◌, ℕ, ◌<◌, ℤ, List, ◌∷◌, ◌++◌, length, if◌then◌else◌, ap}
use Rattle.std.proofs.Math.Seq.{drop-append_seam}
use Rattle.std.proofs.lemmas.Bool.{lt-ltb}
use Rattle.swift_types.specs.declared.limits.TheConstants.{FRAMES}
use Rattle.swift_types.specs.declared.outcome.Ending.{Ending}
use Rattle.swift_types.specs.declared.outcome.Fault.TheVariants.{Depth}
use Rattle.swift_types.specs.declared.outcome.Resume.{Resume}
use Rattle.swift_types.specs.declared.outcome.Resume.TheVariants.{Start, Fault as Raise}
use Rattle.swift_script.specs.Scripts.{ScriptView}
use Rattle.swift_interpreter.specs.Frames.{FrameView}
use Rattle.swift_interpreter.specs.Turn.{InvocationView}
use Rattle.swift_turn.specs.Body.{called, opening, resumed, runs}

pub found : (script : ScriptView) (p : FrameView) (callers : List FrameView) (outer : List (ℕ × ℤ)) (c : InvocationView) → length (p ∷ callers) < FRAMES
    → (called script p callers outer c).task ≡ record { frames = opening script c.method c.args p.made p.opened ∷ p ∷ callers; outer = p.own ++ outer }
found script p callers outer c lt =
    let frame = opening script c.method c.args p.made p.opened in
    ap (λ b. (if b then runs script frame (p ∷ callers) (p.own ++ outer) Start else runs script p callers outer (Raise Depth)).task) (lt-ltb (length (p ∷ callers)) FRAMES lt)

pub gone : (script : ScriptView) (left p : FrameView) (callers : List FrameView) (outer : List (ℕ × ℤ)) (resume : Resume) (ending : Ending)
    → (resumed script left (p ∷ callers) (p.own ++ outer) resume ending).task ≡ record { frames = record p { made = left.made; opened = left.opened } ∷ callers; outer = outer }
gone script left p callers outer resume ending =
    ap (λ (o : List (ℕ × ℤ)). record { frames = record p { made = left.made; opened = left.opened } ∷ callers; outer = o }) (drop-append_seam p.own outer)
