-- Invariants of the frame that runs that need not be tested.
use Rattle.std.proofs.Common.{◌≡◌, ℕ, ℤ, Bool, true, false, List, [], ◌∷◌, subst}
use Rattle.swift_script.specs.Scripts.{ScriptView}
use Rattle.swift_interpreter.specs.Frames.{FrameView, frame_view}
use Rattle.swift_interpreter.specs.declared.turn_state.TurnState.{TurnState}
use Rattle.swift_undo.specs.Laws.{AllHold}
use Rattle.swift_undo.specs.Rows.{AreSpared, HaveRows}
use Rattle.swift_undo.proofs.Spared.{spared}
use Rattle.swift_turn.specs.Body.{HasFrames, IfRunning, invariants_at}
use Rattle.swift_turn.specs.BodyInvariant.{frames_of}

-- where all hold, those that have rows are
pub first_spared : (script : ScriptView) (frames : List FrameView) (rows : List ℕ) (fields : List (List ℤ)) → IfRunning frames (λ p. HaveRows rows (invariants_at script p)) → IfRunning frames (λ p. AllHold (invariants_at script p) fields)
    → IfRunning frames (λ p. AreSpared rows (invariants_at script p) fields)
first_spared script [] rows fields have all = tt
first_spared script (p ∷ callers) rows fields have all = spared rows (invariants_at script p) fields have all

-- what holds of the frame that runs holds of the one that a body keeps as such
pub top_spared : (script : ScriptView) (running : Bool) (turn : TurnState) (callers frames : List FrameView) (rows : List ℕ) (fields : List (List ℤ)) → frames_of running turn callers ≡ frames → HasFrames frames
    → IfRunning frames (λ p. AreSpared rows (invariants_at script p) fields) → AreSpared rows (invariants_at script (frame_view turn.frame)) fields
top_spared script true turn callers [] rows fields is has holds = absurd has
top_spared script true turn callers (p ∷ ps) rows fields is has holds =
    let same : p ≡ frame_view turn.frame = cc in
    subst (λ (f : FrameView). AreSpared rows (invariants_at script f) fields) same holds
top_spared script false turn callers [] rows fields is has holds = absurd has
top_spared script false turn callers (p ∷ ps) rows fields is has holds = absurd (cc)
