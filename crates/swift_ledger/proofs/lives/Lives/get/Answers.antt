use Rattle.swift_ledger.proofs.Prelude.{List, ◌∙◌, ap, get_or, Life, unborn}
use Rattle.swift_ledger.proofs.LivesLemmas.{any_life}
use Rattle.swift_ledger.proofs.lives.Lives.get.Goals as goal

pub returns : goal.returns
returns c = λ roots log are form. c.life_at.ensures ∙ ap (λ (xs : List Life). get_or xs c.args.task.0 unborn) are.lives ∙ any_life roots log c.args.task.0 form
