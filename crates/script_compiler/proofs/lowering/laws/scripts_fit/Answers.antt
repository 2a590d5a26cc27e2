use Rattle.script_compiler.proofs.WholeScripts.{script_fits}
use Rattle.script_compiler.proofs.lowering.laws.scripts_fit.Goals as goal

pub returns : goal.returns
returns c = script_fits
