use Rattle.swift_explorer.proofs.Prelude.{◌≡◌, IfSome, arc_value, IsPath, IsBrokenAfter}
use Rattle.swift_explorer.proofs.dive.go_down.Given as goal

abbrev pub invariant-loop : goal.invariant-loop
invariant-loop l = record {
  script : l.history.steps.script ≡ l.fn.history.steps.script;
  path : IsPath (arc_value l.fn.history.steps.script) l.path.items l.history;
  broken : IfSome l.broken (λ schedule. IsBrokenAfter (arc_value l.fn.history.steps.script) schedule.items);
}
