use Rattle.swift_tasks.proofs.Prelude.{◌≡◌, ◌∙◌, ap, arith, List, Event, task_of, life_of, room_in, room_held, LedgerView}
use Rattle.swift_tasks.proofs.Grows.{stage-push}
use Rattle.swift_tasks.proofs.effects.note_aside.Goals as goal

pub returns-clause-reserved : goal.returns-clause-reserved
returns-clause-reserved c =
    let log = ap (λ (l : LedgerView). l.log) c.note.ensures.log in
    let same : room_held (life_of (task_of c.args.event) c.note.new.self.log) ≡ room_held (life_of (task_of c.args.event) c.args.ledger.now.log) =
    ap (λ (l : List Event). room_held (life_of (task_of c.args.event) l)) log ∙ ap room_in (stage-push (task_of c.args.event) c.args.ledger.now.log c.args.event c.requires.aside) in
    omega (arith, same, c.note.ensures.reserved)
