use Rattle.script_compiler.proofs.CallsThere.{checked_calls}
use Rattle.script_compiler.proofs.laws.calls_are_there.Goals as goal

pub returns : goal.returns
returns c = checked_calls
