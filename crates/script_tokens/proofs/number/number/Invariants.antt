use Rattle.std.proofs.Common.{◌≡◌, drop}
use Rattle.script_tokens.specs.Lexes.{decimal_behind, decimal}
use Rattle.script_tokens.proofs.number.number.Given as goal

abbrev pub invariant-loop-d : goal.invariant-loop-d
invariant-loop-d l = decimal_behind l.value (drop l.d-index l.digits) ≡ decimal l.digits
