use Rattle.nuchapay_runs.proofs.Prelude.{◌<◌, length, arith}
use Rattle.nuchapay_runs.proofs.names.place_of.Goals as goal

pub returns-then-is_turn : goal.returns-then-is_turn
returns-then-is_turn c =
    let lt : c.loop-place.place < length c.args.journal.now = omega (arith, c.loop-place-test.true, c.len-place-end.ensures.len) in
    let is = c.is_turn.ensures c.if-is_turn.true in
    record {
      within = lt;
      task_is = λ d. (is d).0;
      number_is = λ d. (is d).1;
    }
