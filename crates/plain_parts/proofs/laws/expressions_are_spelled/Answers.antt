use Rattle.plain_parts.proofs.Read.{spells}
use Rattle.plain_parts.proofs.laws.expressions_are_spelled.Goals as goal

pub returns : goal.returns
returns c = λ f e opens level plain low. spells f e opens level plain low
