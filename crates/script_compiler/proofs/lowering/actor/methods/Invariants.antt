use Rattle.script_compiler.proofs.Prelude.{◌≡◌, ◌≤◌, ◌++◌, [], List, take, drop, map, AllZip, BYTES, view_method, methods_size, fields_alone, methods_error, past_methods, MethodView, method_of, IsMethod}
use Rattle.script_compiler.proofs.lowering.actor.methods.Given as goal

abbrev pub invariant-loop-next : goal.invariant-loop-next
invariant-loop-next l = record {
  errors : methods_error (fields_alone l.plan.directory l.actor.0) l.seen l.at (map view_method (drop l.next-index l.methods)) ≡ methods_error (fields_alone l.plan.directory l.actor.0) [] l.initial.at (map view_method l.methods);
  after : past_methods (map view_method (drop l.next-index l.methods)) l.at ≡ past_methods (map view_method l.methods) l.initial.at;
  size : methods_size (map view_method (drop l.next-index l.methods)) ≤ BYTES;
  are : (done : List MethodView) → AllZip IsMethod l.initial.all.items done → AllZip IsMethod l.all.items (done ++ map (method_of l.plan l.actor.0) (map view_method (take l.next-index l.methods)));
}
