use Rattle.run_pictures.proofs.Prelude.{ℕ, ◌≤◌, ◌<◌}
use Rattle.run_pictures.specs.LastTurns.{IsOfOther}
use Rattle.run_pictures.proofs.values.last.last_turn.Given as goal

abbrev pub invariant-loop-left : goal.invariant-loop-left
invariant-loop-left l = record {
  within : l.left ≤ l.place;
  others : (other : ℕ) → l.left ≤ other → other < l.place → IsOfOther l.journal l.place other;
}

abbrev pub decreases-loop-left : goal.decreases-loop-left
decreases-loop-left l = l.left
