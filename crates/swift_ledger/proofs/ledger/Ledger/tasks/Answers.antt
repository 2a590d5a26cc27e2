use Rattle.swift_ledger.proofs.Prelude.{subst, LedgerView, IsWellFormed}
use Rattle.swift_ledger.proofs.FormLemmas.{made_below}
use Rattle.swift_ledger.proofs.ledger.Ledger.tasks.Goals as goal

pub returns-clause-known : goal.returns-clause-known
returns-clause-known c = λ t made.
    let form : IsWellFormed c.args.self.now.roots c.args.self.now.log = subst (λ (b : LedgerView). IsWellFormed b.roots b.log) c.self.view_is c.self.invariant.form in
    made_below c.args.self.now.roots c.args.self.now.log t form made
