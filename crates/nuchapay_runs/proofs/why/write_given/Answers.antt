use Rattle.nuchapay_runs.proofs.Prelude.{ap, decimal}
use Rattle.nuchapay_runs.proofs.Joined.{both, same}
use Rattle.nuchapay_runs.proofs.why.write_given.Goals as goal

pub returns : goal.returns
returns c = both (both (both (both c.say.ensures c.resume.ensures) c.say-2.ensures) (same (ap decimal c.number.ensures) c.number-2.ensures)) (same c.cancelled_words.ensures c.say-3.ensures)
