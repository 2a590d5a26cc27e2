use Rattle.script_compiler.proofs.MethodsFit.{checked_methods}
use Rattle.script_compiler.proofs.laws.methods_use_their_places.Goals as goal

pub returns : goal.returns
returns c = checked_methods
