use Rattle.std.proofs.Common.{◌≡◌, ◌++◌, take}
use Rattle.std.specs.List.{flat_map}
use Rattle.swift_programs.specs.Programs.{method_text}
use Rattle.swift_programs.proofs.program.spell_methods.Given as goal

abbrev pub invariant-loop-method : goal.invariant-loop-method
invariant-loop-method l = l.out.items ≡ l.initial.out.items ++ flat_map method_text (take l.method-index l.methods)
