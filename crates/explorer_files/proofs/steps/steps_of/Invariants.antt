use Rattle.std.proofs.Common.{map, take}
use Rattle.serde_json.specs.View.{view}
use Rattle.explorer_files.specs.Steps.{AreSavedSteps}
use Rattle.explorer_files.proofs.steps.steps_of.Given as goal

abbrev pub invariant-loop-value : goal.invariant-loop-value
invariant-loop-value l = AreSavedSteps (map view (take l.value-index l.values)) l.steps.items
