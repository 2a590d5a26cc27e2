use Rattle.swift_ledger.proofs.Prelude.{◌≡◌, ℕ, ◌+◌, ◌-◌, ◌<◌, List, [], ◌∷◌, ◌++◌, subst, sym, ap, ◌∙◌, arith, Event, task_of, life_of, room_held, reserved_of, LedgerView, CanNote, IsWellFormed, AreIndexes, HasSpare, KeepsLevels}
use Rattle.swift_ledger.proofs.FormLemmas.{form_push, reserved_push}
use Rattle.swift_ledger.proofs.ledger.Ledger.note_other.Goals as goal

pub invariant_of-self : goal.invariant_of-self
invariant_of-self c =
    let s = c.self.inside in
    let inv = c.self.invariant in
    let fits : CanNote s.roots s.log.events c.args.event = subst (λ (b : LedgerView). CanNote b.roots b.log c.args.event) (sym c.self.view_is) c.requires.fits in
    let less = c.push.ensures.room in
    let events = c.push.ensures.events in
    record {
      form = subst (λ (es : List Event). IsWellFormed s.roots es) (sym events) (form_push s.roots s.log.events c.args.event inv.form fits);
      indexes = subst (λ (es : List Event). AreIndexes c.note-2.new.self s.roots es) (sym events) c.note-2.ensures.indexes;
      indexes_room = c.note-2.ensures.spare c.push.new.self.room (subst (λ (n : ℕ). HasSpare s.indexes n) (sym less) inv.indexes_room);
      levels = subst (λ (es : List Event). KeepsLevels c.note.new.self es) (sym events) c.note.ensures;
    }

pub returns-clause-reserved : goal.returns-clause-reserved
returns-clause-reserved c =
    let s = c.self.inside in
    let e : Event = c.args.event in
    let fits : CanNote s.roots s.log.events e = subst (λ (b : LedgerView). CanNote b.roots b.log e) (sym c.self.view_is) c.requires.fits in
    subst (λ (b : LedgerView). reserved_of s.roots c.push.new.self.events + room_held (life_of (task_of e) b.log) ≡ reserved_of b.roots b.log + room_held (life_of (task_of e) c.push.new.self.events)) c.self.view_is
    (subst (λ (es : List Event). reserved_of s.roots es + room_held (life_of (task_of e) s.log.events) ≡ reserved_of s.roots s.log.events + room_held (life_of (task_of e) es)) (sym c.push.ensures.events)
    (reserved_push s.roots s.log.events e c.self.invariant.form fits))

pub returns-clause-log : goal.returns-clause-log
returns-clause-log c =
    let less : ℕ = c.push.new.self.room in
    ap (λ (es : List Event). record { roots = c.self.inside.roots; log = es; spare = less }) c.push.ensures.events
    ∙ ap (λ (b : LedgerView). record { roots = b.roots; log = b.log ++ c.args.event ∷ []; spare = less }) c.self.view_is
