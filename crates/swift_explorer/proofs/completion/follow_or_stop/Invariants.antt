use Rattle.swift_explorer.proofs.Prelude.{◌≡◌, take, arc_value, IsPath}
use Rattle.swift_explorer.proofs.completion.follow_or_stop.Given as goal

abbrev pub invariant-loop-place : goal.invariant-loop-place
invariant-loop-place l = record {
  script : l.history.steps.script ≡ l.fn.history.steps.script;
  path : IsPath (arc_value l.fn.history.steps.script) (take l.place l.path) l.history;
}
