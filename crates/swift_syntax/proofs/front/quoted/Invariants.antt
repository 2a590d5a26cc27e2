use Rattle.std.proofs.Common.{◌≡◌, ◌≤◌, false, length}
use Rattle.swift_syntax.specs.Fronts.{quoted_at}
use Rattle.swift_syntax.specs.declared.token.TokenKind.TheVariants as kinds
use Rattle.swift_syntax.proofs.front.quoted.Given as goal

abbrev pub invariant-loop-rest : goal.invariant-loop-rest
invariant-loop-rest l = record {
  same : quoted_at l.rest l.is_escaped l.kind ≡ quoted_at l.bytes false kinds.Text;
  shorter : length l.rest ≤ length l.bytes;
}

abbrev pub decreases-loop-rest : goal.decreases-loop-rest
decreases-loop-rest l = length l.rest
