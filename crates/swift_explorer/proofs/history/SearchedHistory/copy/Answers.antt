use Rattle.swift_explorer.proofs.Prelude.{◌∙◌}
use Rattle.swift_explorer.proofs.Copies.{is_copy}
use Rattle.swift_explorer.proofs.history.SearchedHistory.copy.Goals as goal

pub returns : goal.returns
returns c = is_copy c.args.self.now _ c.in_ok-steps.ensures (c.in_ok-used.ensures.items ∙ c.deref.ensures.value) c.in_ok-digest.ensures
