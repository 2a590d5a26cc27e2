use Rattle.nuchapay_runs.proofs.Prelude.{◌<◌, List, length, ap, sym, ◌∙◌, arith, flat_map, get_or-map, length-map, values_view, values_views, blamed_text, Change}
use Rattle.nuchapay_runs.proofs.Joined.{same}
use Rattle.nuchapay_runs.proofs.Meanwhile.{meanwhile_more}
use Rattle.nuchapay_runs.proofs.why.write_meanwhile.Goals as goal

pub loop-place-preserved : goal.loop-place-preserved
loop-place-preserved c =
    let p = c.args.script.now in
    let e = c.args.executor.0 in
    let i = c.loop-place.place in
    let values = c.args.values.now in
    let v = values_view c.index-values-place.result in
    let within : i < c.args.to = omega (arith, c.loop-place-test.true) in
    let lt : i < length c.args.journal.now = omega (arith, c.loop-place-test.true, c.requires.turns) in
    let here : i < length values = omega (arith, c.loop-place-test.true, c.requires.values) in
    let below : i < length (values_views values) = omega (arith, here, length-map values values_view) in
    let is = ap values_view c.index-values-place.is ∙ sym (get_or-map values_view values i c.index-values-place.result v here) in
    let kept = ap (λ (cs : List Change). flat_map (blamed_text p c.args.endings.now e c.args.actor c.args.waiting.0 c.task.result.0 c.number.result) cs) c.kept_changes.ensures in
    meanwhile_more p c.args.endings.now e c.args.actor c.args.waiting.0 c.args.journal.now (values_views values) i c.args.to c.task.result.0 c.number.result v c.args.out.now c.loop-place.out c.write_changed.new.out _ within lt below
    c.task.ensures
    c.number.ensures
    is
    (same kept c.write_changed.ensures)
    c.loop-place.invariant
