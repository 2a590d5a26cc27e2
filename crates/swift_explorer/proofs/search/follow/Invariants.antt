use Rattle.swift_explorer.proofs.Prelude.{◌≡◌, take, arc_value, IsPath}
use Rattle.swift_explorer.proofs.search.follow.Given as goal

abbrev pub invariant-loop-step : goal.invariant-loop-step
invariant-loop-step l = record {
  script : l.history.steps.script ≡ l.fn.history.steps.script;
  path : IsPath (arc_value l.fn.history.steps.script) (take l.step-index l.path) l.history;
}
