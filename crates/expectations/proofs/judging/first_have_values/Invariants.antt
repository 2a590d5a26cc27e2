use Rattle.expectations.proofs.Prelude.{◌≡◌, first_have_values}
use Rattle.expectations.proofs.judging.first_have_values.Given as goal

abbrev pub invariant-loop-root : goal.invariant-loop-root
invariant-loop-root l = l.all ≡ first_have_values l.endings l.root
