use Rattle.std.proofs.Common.{subst}
use Rattle.swift_script.specs.Accepted.{IsAccepted}
use Rattle.swift_script.specs.Scripts.{ScriptView}
use Rattle.nuchapay_tool.proofs.laid.is_read_as.Goals as goal

pub returns-in-Ok-clause-is : goal.returns-in-Ok-clause-is
returns-in-Ok-clause-is c = λ same. subst (λ (s : ScriptView). IsAccepted c.args.text.now s) (c.says_the_same.ensures.same.0 same) c.in-Ok.ensures.found
