use Rattle.swift_explorer.proofs.Prelude.{refl, arith, operation_is, term_is}
use Rattle.swift_explorer.proofs.MarksRead.{all_first, first_more}
use Rattle.swift_explorer.proofs.marks.are_marked.Goals as goal

pub loop-place-init : goal.loop-place-init
loop-place-init c = λ k line lt there mark. absurd (omega (arith, lt))

pub loop-place-preserved : goal.loop-place-preserved
loop-place-preserved c = first_more (operation_is c.args.kind) (term_is c.args.kind) c.args.marks.now c.args.lines.now c.loop-place.place c.index-lines-place.result c.loop-place-test.true c.index-lines-place.is c.loop-place.invariant (c.if-not-line_is_right.ensures refl)

pub returns : goal.returns
returns c = λ _. all_first (operation_is c.args.kind) (term_is c.args.kind) c.args.marks.now c.args.lines.now c.loop-place.place (omega (arith, c.loop-place-test.false)) c.loop-place.invariant
