use Rattle.script_tokens.proofs.Few as few
use Rattle.script_tokens.proofs.laws.few_tokens.Goals as goal

pub returns : goal.returns
returns c = λ text tokens lexed. few.few_tokens lexed
