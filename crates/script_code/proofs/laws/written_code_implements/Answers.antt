use Rattle.script_code.proofs.Renumbers.{written_follows}
use Rattle.script_code.proofs.laws.written_code_implements.Goals as goal

pub returns : goal.returns
returns c = written_follows
