use Rattle.std.proofs.Common.{map, length}
use Rattle.script_tokens.specs.Pieces.{piece}
use Rattle.script_tokens.proofs.Reading.{Reading}
use Rattle.script_tokens.proofs.read.tokens.Given as goal

abbrev pub invariant-loop-rest : goal.invariant-loop-rest
invariant-loop-rest l = Reading l.text l.rest (map piece l.found.tokens.items) l.found.spans.items

abbrev pub decreases-loop-rest : goal.decreases-loop-rest
decreases-loop-rest l = length l.rest
