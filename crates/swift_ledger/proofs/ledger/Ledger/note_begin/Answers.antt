use Rattle.swift_ledger.proofs.Prelude.{◌≡◌, ◌+◌, List, refl, subst, sym, Event, Begin, life_of, room_held, reserved_of, LedgerView, CanNote}
use Rattle.swift_ledger.proofs.FormLemmas.{reserved_push}
use Rattle.swift_ledger.proofs.TurnLemmas.{ledger_follows}
use Rattle.swift_ledger.proofs.ledger.Ledger.note_begin.Goals as goal

pub invariant_of-self : goal.invariant_of-self
invariant_of-self c =
    let s = c.self.inside in
    let e : Event = Begin c.args.task c.args.number c.args.env in
    let fits : CanNote s.roots s.log.events e = subst (λ (b : LedgerView). CanNote b.roots b.log e) (sym c.self.view_is) c.requires.fits in
    ledger_follows s c.begin.new.self c.push.new.self e c.self.invariant fits refl c.begin.ensures.lives c.begin.ensures.spare c.push.ensures.events c.push.ensures.room

pub returns-clause-reserved : goal.returns-clause-reserved
returns-clause-reserved c =
    let s = c.self.inside in
    let e : Event = Begin c.args.task c.args.number c.args.env in
    let fits : CanNote s.roots s.log.events e = subst (λ (b : LedgerView). CanNote b.roots b.log e) (sym c.self.view_is) c.requires.fits in
    subst (λ (b : LedgerView). reserved_of s.roots c.push.new.self.events + room_held (life_of c.args.task.0 b.log) ≡ reserved_of b.roots b.log + room_held (life_of c.args.task.0 c.push.new.self.events)) c.self.view_is
    (subst (λ (es : List Event). reserved_of s.roots es + room_held (life_of c.args.task.0 s.log.events) ≡ reserved_of s.roots s.log.events + room_held (life_of c.args.task.0 es)) (sym c.push.ensures.events)
    (reserved_push s.roots s.log.events e c.self.invariant.form fits))
