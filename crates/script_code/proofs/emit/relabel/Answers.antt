use Rattle.script_code.proofs.Prelude.{◌≡◌, ◌+◌, suc, get_or, ◌∙◌, ap, arith, slice_set, relabelled}
use Rattle.script_code.proofs.Mapped.{mapped, mapped_next, mapped_all}
use Rattle.script_code.proofs.emit.relabel.Goals as goal

pub loop-line-preserved : goal.loop-line-preserved
loop-line-preserved c =
    let f = relabelled c.args.first in
    let i = c.loop-line.line-index in
    let xs = c.args.instructions.now in
    let d = c.line-item.result in
    let next : suc i ≡ i + 1 = omega arith in
    let here : c.loop-line.line-items ≡ mapped f i xs = c.loop-line.invariant in
    ap (λ x. slice_set c.loop-line.line-items i x) c.relabel_one.ensures
    ∙ ap (λ ys. slice_set ys i (f (get_or ys i d))) here
    ∙ mapped_next f i xs d c.loop-line-test.true
    ∙ ap (λ n. mapped f n xs) next

pub returns : goal.returns
returns c = c.loop-line.invariant ∙ mapped_all (relabelled c.args.first) c.loop-line.line-index c.args.instructions.now c.loop-line-test.false
