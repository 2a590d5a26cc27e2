use Rattle.script_tokens.proofs.Unique.{unique}
use Rattle.script_tokens.proofs.laws.one_reading.Goals as goal

pub returns : goal.returns
returns c = λ bs a b da db. unique b da db
