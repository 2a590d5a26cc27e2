use Rattle.script_grammar.proofs.Short.{script_short}
use Rattle.script_grammar.proofs.laws.scripts_are_short.Goals as goal

pub returns : goal.returns
returns c = λ limit tokens decls spelled. script_short spelled
