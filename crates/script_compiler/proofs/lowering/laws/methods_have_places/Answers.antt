use Rattle.script_compiler.proofs.Callable.{method_found}
use Rattle.script_compiler.proofs.Parameters.{as_many_parameters}
use Rattle.script_compiler.proofs.lowering.laws.methods_have_places.Goals as goal

pub returns : goal.returns
returns c = record { key = method_found; params = as_many_parameters }
