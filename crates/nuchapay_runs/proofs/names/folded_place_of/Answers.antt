use Rattle.nuchapay_runs.proofs.Prelude.{◌<◌, length, arith}
use Rattle.nuchapay_runs.proofs.Standing.{folded_at}
use Rattle.nuchapay_runs.proofs.names.folded_place_of.Goals as goal

pub returns-then-is_folded : goal.returns-then-is_folded
returns-then-is_folded c =
    let lt : c.loop-place.place < length c.args.checkpoint.now.view.folded = omega (arith, c.loop-place-test.true, c.len-place-end.ensures.len) in
    folded_at c.args.checkpoint.now.view.folded c.loop-place.place c.args.task.0 c.args.number lt (c.is_folded.ensures c.if-is_folded.true)
