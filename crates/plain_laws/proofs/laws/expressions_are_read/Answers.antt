use Rattle.plain_laws.proofs.Trees.{reads}
use Rattle.plain_laws.proofs.laws.expressions_are_read.Goals as goal

pub returns : goal.returns
returns c = λ text tokens f e from end to tree plain told ends spelled. reads text tokens f e from end to tree plain told ends spelled
