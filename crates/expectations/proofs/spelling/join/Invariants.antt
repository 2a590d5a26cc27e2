use Rattle.expectations.proofs.Prelude.{length, map, piece}
use Rattle.expectations.proofs.Joining.{GoesOn}
use Rattle.expectations.proofs.spelling.join.Given as goal

abbrev pub invariant-tokens : goal.invariant-tokens
invariant-tokens l = GoesOn (map piece l.tokens) (map piece l.names.items) (map piece l.rest)

abbrev pub decreases-tokens : goal.decreases-tokens
decreases-tokens l = length l.rest
