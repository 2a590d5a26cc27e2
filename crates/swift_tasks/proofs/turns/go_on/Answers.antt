use Rattle.swift_tasks.proofs.Prelude.{ap, sym, subst, List, Event, Apply, LedgerView, IsMade}
use Rattle.swift_tasks.proofs.Grows.{made-push}
use Rattle.swift_tasks.proofs.turns.go_on.Goals as goal

pub note_give-requires-clause-fits : goal.note_give-requires-clause-fits
note_give-requires-clause-fits c =
    let log = ap (λ (l : LedgerView). l.log) c.note_apply.ensures.log in
    subst (λ (l : List Event). IsMade l c.args.task) (sym log) (made-push c.args.task.0 c.args.ledger.now.log (Apply c.args.task c.args.number) c.requires.mine)
