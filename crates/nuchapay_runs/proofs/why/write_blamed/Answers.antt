use Rattle.nuchapay_runs.proofs.Joined.{both}
use Rattle.nuchapay_runs.proofs.why.write_blamed.Goals as goal

pub returns : goal.returns
returns c = both (both c.write_waiting.ensures c.change.ensures) c.write_by.ensures
