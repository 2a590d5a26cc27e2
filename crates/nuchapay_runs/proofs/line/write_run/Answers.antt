use Rattle.nuchapay_runs.proofs.Joined.{both}
use Rattle.nuchapay_runs.proofs.line.write_run.Goals as goal

pub returns : goal.returns
returns c = both (both (both (both (both (both c.number.ensures c.say.ensures) c.number-2.ensures) c.say-2.ensures) c.number-3.ensures) c.say-3.ensures) c.number-4.ensures
