use Rattle.nuchapay_runs.proofs.Joined.{both}
use Rattle.nuchapay_runs.proofs.explained.write_task.Goals as goal

pub returns : goal.returns
returns c = both (both (both c.say.ensures c.number.ensures) c.write_name_note.ensures) c.say-2.ensures
