use Rattle.swift_workers.proofs.Prelude.{List, [], ◌∷◌, ◌++◌, ap, ◌∙◌, RecordView, BookSeatView}
use Rattle.swift_workers.proofs.Left.{parts_gathered}
use Rattle.swift_workers.proofs.leave.note_state.Goals as goal

pub returns-clause-parts : goal.returns-clause-parts
returns-clause-parts c = λ p k site are.
    (let js = c.in_ok-push.ensures.items ∙ ap (λ (j : List RecordView). c.args.parts.now.journals.items ++ j ∷ []) c.into_parts-jobs.ensures.journal in
    let known = ap (λ (x : BookSeatView). x.knows) c.gather.ensures in
    parts_gathered p c.args.own.lock c.args.seat.now.knows c.args.own.knows _ k c.args.parts.now _ c.args.state _ _ known are site c.facts.ensures.keeps c.facts.ensures.invariants c.requires.known.account c.requires.rest
    c.into_parts-jobs.ensures.checkpoint c.into_parts-jobs.ensures.fields c.in_ok-push-2.ensures.items js c.in_ok-push-3.ensures.items)
