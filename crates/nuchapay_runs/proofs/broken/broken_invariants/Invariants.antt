use Rattle.nuchapay_runs.proofs.Prelude.{◌≡◌, ℕ, Vec, map, take, Global, broken_texts}
use Rattle.nuchapay_runs.proofs.broken.broken_invariants.Given as goal

abbrev pub invariant-loop-turn : goal.invariant-loop-turn
invariant-loop-turn l = map (λ (text : Vec ℕ Global). text.items) l.texts.items ≡ broken_texts l.script l.executor.0 (take l.turn-index l.turns)
