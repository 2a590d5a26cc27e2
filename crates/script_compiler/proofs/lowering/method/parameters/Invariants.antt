use Rattle.script_compiler.proofs.Prelude.{◌≡◌, ◌≤◌, ◌+◌, drop, length, map, greatest, text_of, parameters_error, past_names, with_parameters}
use Rattle.script_compiler.proofs.lowering.method.parameters.Given as goal

abbrev pub invariant-loop-param : goal.invariant-loop-param
invariant-loop-param l = record {
  errors : parameters_error l.scope l.at (map text_of (drop l.param-index l.params)) ≡ parameters_error l.initial.scope l.initial.at (map text_of l.params);
  after : past_names (map text_of (drop l.param-index l.params)) l.at ≡ past_names (map text_of l.params) l.initial.at;
  room : length l.scope.kinds + length (drop l.param-index l.params) ≤ greatest;
  standing : with_parameters l.scope (map text_of (drop l.param-index l.params)) ≡ with_parameters l.initial.scope (map text_of l.params);
}
