use Rattle.swift_tasks.proofs.Prelude.{ap, sym, subst, List, Event, LedgerView, IsMade}
use Rattle.swift_tasks.proofs.Pushes.{root_made}
use Rattle.swift_tasks.proofs.requests.note_root.Goals as goal

pub note_give-requires-clause-fits : goal.note_give-requires-clause-fits
note_give-requires-clause-fits c =
    let log = ap (λ (l : LedgerView). l.log) c.note.ensures.log in
    subst (λ (l : List Event). IsMade l (record { 0 = c.args.root.0 })) (sym log) (root_made (record { 0 = c.args.root.0 }) c.root_priority-priority.result c.args.ledger.now.log)
