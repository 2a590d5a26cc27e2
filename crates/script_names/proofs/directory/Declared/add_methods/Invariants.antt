use Rattle.script_names.proofs.Prelude.{◌≡◌, drop, map, view_method, with_methods}
use Rattle.script_names.proofs.directory.Declared.add_methods.Given as goal

abbrev pub invariant-loop-method : goal.invariant-loop-method
invariant-loop-method l = with_methods l.actor (map view_method (drop l.method-index l.methods)) l.self ≡ with_methods l.actor (map view_method l.methods) l.initial.self
