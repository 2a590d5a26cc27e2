use Rattle.std.proofs.Common.{ℕ, ◌<◌, ◌≤◌}
use Rattle.script_context.specs.Words.{IsKeyAt}
use Rattle.script_context.proofs.braces.last_key.Given as goal

abbrev pub invariant-loop-at : goal.invariant-loop-at
invariant-loop-at l = (l.at ≤ l.place) × ((k : ℕ) → l.at ≤ k → k < l.place → IsKeyAt l.tokens k l.keyword → ⊥)

abbrev pub decreases-loop-at : goal.decreases-loop-at
decreases-loop-at l = l.at
