use Rattle.swift_ledger.proofs.Prelude.{List, Bool, false, ◌∙◌, ap, get_or}
use Rattle.swift_ledger.proofs.FlagLemmas.{flag_of}
use Rattle.swift_ledger.proofs.flags.Flags.get.Goals as goal

pub returns : goal.returns
returns c = λ roots log are form. c.is_marked.ensures ∙ ap (λ (xs : List Bool). get_or xs c.args.task.0 false) are ∙ flag_of roots log c.args.task.0 form
