use Rattle.swift_tasks.proofs.Prelude.{◌∙◌, ap, refl, [], ◌∷◌, ◌++◌, Event, CancelTask, LedgerView}
use Rattle.swift_tasks.proofs.Pushes.{kept_push, leaves_cancel}
use Rattle.swift_tasks.proofs.book.Book.cancel.Goals as goal

pub invariant_of-self-2 : goal.invariant_of-self-2
invariant_of-self-2 c =
    let e : Event = CancelTask c.args.task in
    let roots = ap (λ (l : LedgerView). l.roots) c.note.ensures.log ∙ ap (λ (l : LedgerView). l.roots) c.reserve.ensures.same in
    let log = ap (λ (l : LedgerView). l.log) c.note.ensures.log ∙ ap (λ (l : LedgerView). l.log ++ e ∷ []) c.reserve.ensures.same in
    (kept_push e (leaves_cancel c.args.task c.self.invariant.0.holds) (λ o g. refl) c.self.invariant.0 roots log, c.self.invariant.1, c.self.invariant.2)
