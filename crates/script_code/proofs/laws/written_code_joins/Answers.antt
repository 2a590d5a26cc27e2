use Rattle.script_code.proofs.Layouts.{entry_then, written_then}
use Rattle.script_code.proofs.laws.written_code_joins.Goals as goal

pub returns : goal.returns
returns c = record { written = written_then; entry = entry_then }
