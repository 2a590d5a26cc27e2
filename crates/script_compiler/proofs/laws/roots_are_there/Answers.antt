use Rattle.script_compiler.proofs.CallsThere.{checked_roots}
use Rattle.script_compiler.proofs.laws.roots_are_there.Goals as goal

pub returns : goal.returns
returns c = checked_roots
