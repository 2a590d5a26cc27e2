use Rattle.script_parser.proofs.Whole.{one}
use Rattle.script_parser.proofs.laws.one_script.Goals as goal

pub returns : goal.returns
returns c = one
