use Rattle.std.proofs.Common.{◌≡◌, ◌++◌, map, take}
use Rattle.std.specs.List.{flat_map}
use Rattle.swift_programs.specs.Programs.{next_param_text}
use Rattle.swift_programs.proofs.program.spell_next_params.Given as goal

abbrev pub invariant-loop-param : goal.invariant-loop-param
invariant-loop-param l = l.out.items ≡ l.initial.out.items ++ flat_map next_param_text (map (λ p. p.items) (take l.param-index l.params))
