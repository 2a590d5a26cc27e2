use Rattle.explorer_laws.proofs.OfRuns.{unbroken}
use Rattle.explorer_laws.proofs.laws.no_run_breaks.Goals as goal

pub returns : goal.returns
returns c = unbroken
