use Rattle.script_tokens.proofs.Unique.{unique_spans}
use Rattle.script_tokens.proofs.laws.one_list_of_spans.Goals as goal

pub returns : goal.returns
returns c = λ text a b da db. unique_spans b da db
