use Rattle.script_code.proofs.Layouts.{count_then, length_written}
use Rattle.script_code.proofs.laws.written_code_counts.Goals as goal

pub returns : goal.returns
returns c = (count_then, length_written)
