use Rattle.expectations.proofs.Prelude.{length}
use Rattle.expectations.proofs.judging.+row_among.Given as goal

abbrev pub decreases-row_among : goal.decreases-row_among
decreases-row_among l = length l.actors.now
