use Rattle.explorer_progress.specs.HintsInside.{AreTurnsTo}
use Rattle.explorer_progress.proofs.turns.turns_of.Given as goal

abbrev pub invariant-loop-step : goal.invariant-loop-step
invariant-loop-step l = AreTurnsTo l.report l.schedule l.step l.turns.items l.found.run.items
