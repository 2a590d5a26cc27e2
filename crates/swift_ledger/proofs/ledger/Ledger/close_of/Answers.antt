use Rattle.swift_ledger.proofs.Prelude.{ap, ◌∙◌, close_of, group_of, LedgerView}
use Rattle.swift_ledger.proofs.ledger.Ledger.close_of.Goals as goal

pub returns : goal.returns
returns c =
    c.close_of.ensures
    ∙ ap (λ (b : LedgerView). close_of (group_of c.args.owner.0 c.args.group b.log)) c.self.view_is
