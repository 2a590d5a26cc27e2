use Rattle.expectations.proofs.OneReading.{one_expression}
use Rattle.expectations.proofs.laws.one_expression.Goals as goal

pub returns : goal.returns
returns c = one_expression
