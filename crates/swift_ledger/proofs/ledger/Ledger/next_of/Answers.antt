use Rattle.swift_ledger.proofs.Prelude.{ap, ◌∙◌, next_of, group_of, LedgerView}
use Rattle.swift_ledger.proofs.ledger.Ledger.next_of.Goals as goal

pub returns : goal.returns
returns c =
    c.next_of.ensures
    ∙ ap (λ (b : LedgerView). next_of (group_of c.args.owner.0 c.args.group b.log)) c.self.view_is
