use Rattle.std.proofs.Common.{take}
use Rattle.std.specs.Arc.{arc_value}
use Rattle.explorer_page.specs.Runs.{AreRuns}
use Rattle.explorer_page.proofs.runs.runs_of.Given as goal

abbrev pub invariant-loop-outcome : goal.invariant-loop-outcome
invariant-loop-outcome l = AreRuns (arc_value l.script) (take l.outcome-index l.outcomes) l.runs.items
