use Rattle.explorer_laws.proofs.OfRuns.{listed}
use Rattle.explorer_laws.proofs.laws.each_run_is_listed.Goals as goal

pub returns : goal.returns
returns c = listed
