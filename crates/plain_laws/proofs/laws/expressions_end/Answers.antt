use Rattle.plain_laws.proofs.Prelude.{refl, kind_at}
use Rattle.plain_laws.proofs.Ends.{ends}
use Rattle.plain_laws.proofs.laws.expressions_end.Goals as goal

pub returns : goal.returns
returns c = λ tokens i e. ends tokens i (kind_at tokens i) refl e
