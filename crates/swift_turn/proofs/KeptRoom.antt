-- The room that a kept turn leaves.
use Rattle.std.proofs.Common.{◌≡◌, ℕ, ℤ, Result, Ok, Err, IfOk, List, sym, ap, ◌∙◌}
use Rattle.script_code.specs.Tree.{Code}
use Rattle.swift_interpreter.specs.Frames.{FrameView, state_in}
use Rattle.swift_interpreter.specs.Turn.{EffectView, ExitView, Played}

room_of : (at : ℕ → Code) (p : FrameView) (fields : List (List ℤ)) (effects : List EffectView) (room : ℕ) (exit : ExitView) (k : Played)
    → record { state = state_in at p fields effects room; exit = exit } ≡ k → record { state = state_in at p fields effects k.state.room; exit = exit } ≡ k
room_of at p fields effects room exit k is =
    ap (λ (n : ℕ). record { state = state_in at p fields effects n; exit = exit }) (sym (ap (λ (x : Played). x.state.room) is)) ∙ is

-- what was played is the kept turn, with its room
pub room_kept : {A E : Type 0} (r : Result A E) (Q : A → Type 0) (at : ℕ → Code) (p : FrameView) (fields : List (List ℤ)) (effects : List EffectView) (room : ℕ) (exit : A → ExitView) (k : Played)
    → ((x : A) → Q x → record { state = state_in at p fields effects room; exit = exit x } ≡ k) → IfOk r Q → IfOk r (λ x. record { state = state_in at p fields effects k.state.room; exit = exit x } ≡ k)
room_kept (Ok x) Q at p fields effects room exit k is ok = room_of at p fields effects room (exit x) k (is x ok)
room_kept (Err e) Q at p fields effects room exit k is ok = tt
