use Rattle.swift_tasks.proofs.Prelude.{◌≡◌, ◌∙◌, ap, refl, false, [], ◌∷◌, ◌++◌, Event, Begin, life_of, is_waiting, LedgerView, BookView}
use Rattle.swift_tasks.proofs.Pushes.{kept_push, leaves_begin}
use Rattle.swift_tasks.proofs.book.Book.begin_fitting.Goals as goal

pub note_begin-requires-clause-fits : goal.note_begin-requires-clause-fits
note_begin-requires-clause-fits c = c.env-env.ensures.begins c.args.number

pub invariant_of-self-2 : goal.invariant_of-self-2
invariant_of-self-2 c =
    let e : Event = Begin c.args.task c.args.number c.env-env.result in
    let rests : is_waiting (life_of c.args.task.0 c.self.inside.ledger.log) ≡ false = ap (λ (b : BookView). is_waiting (life_of c.args.task.0 b.log)) c.self.view_is ∙ c.requires.goes in
    let roots = ap (λ (l : LedgerView). l.roots) c.note_begin.ensures.log ∙ ap (λ (l : LedgerView). l.roots) c.reserve.ensures.same in
    let log = ap (λ (l : LedgerView). l.log) c.note_begin.ensures.log ∙ ap (λ (l : LedgerView). l.log ++ e ∷ []) c.reserve.ensures.same in
    (kept_push e (leaves_begin c.self.inside.ledger.log c.args.task c.args.number c.env-env.result rests) (λ o g. refl) c.self.invariant.0 roots log, c.self.invariant.1, c.self.invariant.2)
