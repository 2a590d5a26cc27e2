use Rattle.nuchapay_runs.proofs.Joined.{both}
use Rattle.nuchapay_runs.proofs.line.write_turn.Goals as goal

pub returns : goal.returns
returns c = both (both (both (both (both (both c.write_run.ensures c.say.ensures) c.method.ensures) c.write_env.ensures) c.say-2.ensures) c.write_ends.ensures) c.say-3.ensures
