use Rattle.swift_explorer.proofs.Prelude.{◌≡◌, List, ◌++◌, arc_value, Move, IsPath}
use Rattle.swift_explorer.proofs.completion.go_to_the_end.Given as goal

abbrev pub invariant-loop : goal.invariant-loop
invariant-loop l = record {
  script : l.history.steps.script ≡ l.fn.history.steps.script;
  path : IsPath (arc_value l.fn.history.steps.script) l.path.items l.history;
  after : (rest : List Move) × (l.path.items ≡ l.fn.path.items ++ rest);
}
