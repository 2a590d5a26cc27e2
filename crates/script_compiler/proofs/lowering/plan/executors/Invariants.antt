use Rattle.script_compiler.proofs.Prelude.{◌≡◌, ◌++◌, ◌+◌, ◌≤◌, drop, take, map, length, ACTORS, view_decl}
use Rattle.script_compiler.specs.Plan.{executors_from}
use Rattle.script_compiler.proofs.lowering.plan.executors.Given as goal

abbrev pub invariant-loop-decl : goal.invariant-loop-decl
invariant-loop-decl l = record {
  executors : take ACTORS (l.executors.items ++ executors_from l.declared.executors l.own (map view_decl (drop l.decl-index l.decls))) ≡ take ACTORS (executors_from l.declared.executors (length l.declared.executors) (map view_decl l.decls));
  own : l.own ≤ length l.declared.executors + length l.executors.items;
  few : length l.executors.items ≤ ACTORS;
}
