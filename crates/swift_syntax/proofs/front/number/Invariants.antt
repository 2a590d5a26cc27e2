use Rattle.std.proofs.Common.{◌≡◌, drop}
use Rattle.swift_syntax.specs.Fronts.{decimal_behind, decimal}
use Rattle.swift_syntax.proofs.front.number.Given as goal

abbrev pub invariant-loop-d : goal.invariant-loop-d
invariant-loop-d l = decimal_behind l.value (drop l.d-index l.digits) ≡ decimal l.digits
