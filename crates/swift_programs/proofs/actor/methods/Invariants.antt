use Rattle.std.proofs.Common.{◌≡◌, map, take}
use Rattle.script_grammar.specs.Tree.{view_actor, view_method}
use Rattle.swift_programs.specs.Outline.{method_for, method_in}
use Rattle.swift_programs.proofs.actor.methods.Given as goal

abbrev pub invariant-loop-method : goal.invariant-loop-method
invariant-loop-method l = map method_in l.methods.items ≡ map (method_for (view_actor l.actor)) (map view_method (take l.method-index l.actor.methods.items))
