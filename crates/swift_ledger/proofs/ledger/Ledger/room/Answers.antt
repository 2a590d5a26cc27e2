use Rattle.swift_ledger.proofs.Prelude.{subst, sym, ap, arith, room_held, LedgerView, IsMade}
use Rattle.swift_ledger.proofs.FormLemmas.{made_below, held_within}
use Rattle.swift_ledger.proofs.ledger.Ledger.room.Goals as goal

pub overflow_sub-others : goal.overflow_sub-others
overflow_sub-others c =
    let s = c.self.inside in
    let form = c.self.invariant.form in
    let lives = c.self.invariant.indexes.lives in
    let made : IsMade s.log.events c.args.task = subst (λ (b : LedgerView). IsMade b.log c.args.task) (sym c.self.view_is) c.requires in
    omega (
      arith,
      held_within s.roots s.log.events c.args.task.0 (made_below s.roots s.log.events c.args.task form made),
      ap room_held (c.get.ensures s.roots s.log.events lives form),
      c.room-held.ensures,
      c.reserved.ensures s.roots s.log.events lives,
    )
