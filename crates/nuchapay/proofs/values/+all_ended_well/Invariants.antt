use Rattle.nuchapay.proofs.Prelude.{length}
use Rattle.nuchapay.proofs.values.+all_ended_well.Given as goal

abbrev pub decreases-all_ended_well : goal.decreases-all_ended_well
decreases-all_ended_well l = length l.endings.now
