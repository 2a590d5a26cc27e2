use Rattle.swift_ledger.proofs.Prelude.{subst, ap, ◌∙◌, slice_get, own_tasks, LedgerView, IsMade, IsWellFormed}
use Rattle.swift_ledger.proofs.RelativeLemmas.{all_read}
use Rattle.swift_ledger.proofs.ledger.Ledger.own_task.Goals as goal

pub returns-clause-made : goal.returns-clause-made
returns-clause-made c =
    let form : IsWellFormed c.args.self.now.roots c.args.self.now.log = subst (λ (b : LedgerView). IsWellFormed b.roots b.log) c.self.view_is c.self.invariant.form in
    all_read (IsMade c.args.self.now.log) (own_tasks c.args.task.0 c.args.self.now.log) c.args.number c.get.result (form.own c.args.task.0)
    (c.get.ensures (λ t. own_tasks t c.self.inside.log.events) c.self.invariant.indexes.own ∙ ap (λ (b : LedgerView). slice_get (own_tasks c.args.task.0 b.log) c.args.number) c.self.view_is)
