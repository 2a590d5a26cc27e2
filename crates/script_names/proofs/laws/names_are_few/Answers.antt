use Rattle.script_names.proofs.Few.{names_few}
use Rattle.script_names.proofs.laws.names_are_few.Goals as goal

pub returns : goal.returns
returns c = λ limit tokens decls s. names_few s
