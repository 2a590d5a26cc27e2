use Rattle.expectations.proofs.Prelude.{◌≡◌, faulted}
use Rattle.expectations.proofs.reads.faulted.Given as goal

abbrev pub invariant-loop-root : goal.invariant-loop-root
invariant-loop-root l = l.reads.items ≡ faulted l.endings l.root
