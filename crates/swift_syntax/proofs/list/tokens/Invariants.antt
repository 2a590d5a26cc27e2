use Rattle.std.proofs.Common.{length}
use Rattle.std.specs.Prelude.{All}
use Rattle.swift_syntax.specs.Places.{IsTokenOf}
use Rattle.swift_syntax.proofs.ReadSoFar.{Reading}
use Rattle.swift_syntax.proofs.list.tokens.Given as goal

abbrev pub invariant-loop-rest : goal.invariant-loop-rest
invariant-loop-rest l = record {
  reading : Reading l.text l.rest l.begins_line l.after_space l.found.items;
  within : All (IsTokenOf l.text) l.found.items;
}

abbrev pub decreases-loop-rest : goal.decreases-loop-rest
decreases-loop-rest l = length l.rest
