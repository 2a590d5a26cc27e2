use Rattle.swift_ledger.proofs.Prelude.{sym, ◌∙◌, arith}
use Rattle.swift_ledger.proofs.FlagLemmas.{nothing_new, flags_same}
use Rattle.swift_ledger.proofs.flags.Flags.note.Goals as goal

pub returns-then-is_new_cancel-clause-spare : goal.returns-then-is_new_cancel-clause-spare
returns-then-is_new_cancel-clause-spare c = λ n h. c.spread.ensures.spare n (omega (arith, h))

pub returns-else-is_new_cancel-clause-flags : goal.returns-else-is_new_cancel-clause-flags
returns-else-is_new_cancel-clause-flags c =
    let r = c.requires in
    flags_same c.args.roots c.args.log.now.events c.args.event c.args.self.now.flags.items r.log r.fits (sym c.makes_task.ensures ∙ c.if-makes_task.false)
    (nothing_new c.args.roots c.args.log.now.events c.args.event c.args.is_named c.args.has_children c.args.self.now.flags.items r.log r.flags r.named r.children (sym c.is_new_cancel.ensures ∙ c.if-is_new_cancel.false))
    r.flags
