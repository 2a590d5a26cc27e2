use Rattle.nuchapay_runs.proofs.Joined.{both}
use Rattle.nuchapay_runs.proofs.why.write_by.Goals as goal

pub returns : goal.returns
returns c = both (both (both (both (both c.say.ensures c.number.ensures) c.say-2.ensures) c.number-2.ensures) c.write_name_note.ensures) c.say-3.ensures
