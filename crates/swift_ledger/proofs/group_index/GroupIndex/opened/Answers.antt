use Rattle.swift_ledger.proofs.Prelude.{◌∙◌}
use Rattle.swift_ledger.proofs.group_index.GroupIndex.opened.Goals as goal

pub returns : goal.returns
returns c = c.get.ensures ∙ c.requires.counted c.args.owner
