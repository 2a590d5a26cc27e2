use Rattle.std.proofs.Common.{◌≡◌, map, take}
use Rattle.script_grammar.specs.Tree.{text_of}
use Rattle.swift_programs.specs.Names.{value_name}
use Rattle.swift_programs.proofs.actor.params.Given as goal

abbrev pub invariant-loop-param : goal.invariant-loop-param
invariant-loop-param l = map (λ p. p.items) l.said.items ≡ map value_name (map text_of (take l.param-index l.params))
