use Rattle.swift_tasks.proofs.Prelude.{ap, sym, subst, ◌++◌, ◌∷◌, [], List, IsTrue, Event, CancelGroup, is_open_group, LedgerView, IsMade}
use Rattle.swift_tasks.proofs.Grows.{made-push, grows_cancel_group, open_stays}
use Rattle.swift_tasks.proofs.exits.note_cancel_group.Goals as goal

pub returns-clause-mine : goal.returns-clause-mine
returns-clause-mine c =
    let log = ap (λ (l : LedgerView). l.log) c.note.ensures.log in
    subst (λ (l : List Event). IsMade l c.args.task) (sym log) (made-push c.args.task.0 c.args.ledger.now.log (CancelGroup c.args.task c.args.group) c.requires.mine)

pub returns-clause-group : goal.returns-clause-group
returns-clause-group c =
    let roots = c.args.ledger.now.roots in
    let log = ap (λ (l : LedgerView). l.log) c.note.ensures.log in
    subst (λ (l : List Event). IsTrue (is_open_group c.args.task.0 c.args.group l)) (sym log)
    (open_stays roots c.args.task.0 c.args.group c.args.ledger.now.log (c.args.ledger.now.log ++ CancelGroup c.args.task c.args.group ∷ []) (grows_cancel_group roots c.args.ledger.now.log c.args.task c.args.group) c.requires.group)
