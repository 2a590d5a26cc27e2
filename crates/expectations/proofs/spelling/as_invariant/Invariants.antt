use Rattle.expectations.proofs.Prelude.{◌≡◌, ◌++◌, map, piece}
use Rattle.expectations.proofs.spelling.as_invariant.Given as goal

abbrev pub invariant-loop-token : goal.invariant-loop-token
invariant-loop-token l = map piece l.out.items ≡ map piece l.initial.out.items ++ map piece l.yielded
