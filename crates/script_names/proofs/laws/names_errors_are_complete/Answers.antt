use Rattle.script_names.proofs.LeftOut.{nothing_left_out}
use Rattle.script_names.proofs.laws.names_errors_are_complete.Goals as goal

pub returns : goal.returns
returns c = nothing_left_out
