use Rattle.script_compiler.proofs.WholeScripts.{method_fits, methods_fit, actor_fits}
use Rattle.script_compiler.proofs.lowering.laws.methods_fit.Goals as goal

pub returns : goal.returns
returns c = record { one = method_fits; all = methods_fit; actor = actor_fits }
