use Rattle.nuchapay_runs.proofs.Prelude.{◌<◌, length, rules, rows_of}
use Rattle.nuchapay_runs.proofs.Noting.{noted_more}
use Rattle.nuchapay_runs.proofs.report.write_noted_turns.Goals as goal

pub loop-place-preserved : goal.loop-place-preserved
loop-place-preserved c =
    let i = c.loop-place.place in
    let before = rows_of c.loop-place.player.fields.items in
    let after = rows_of c.write_noted_turn.new.player.fields.items in
    let lt : c.loop-place.place < length c.args.journal.now = search rules in
    record {
      text = noted_more c.args.script.now c.args.endings.now c.args.executor.0 c.args.start.folded i c.args.journal.now before after c.args.out.now c.loop-place.out c.write_noted_turn.new.out _ lt c.in_ok-write_noted_turn.ensures.noted c.in_ok-write_noted_turn.ensures.fields c.loop-place.invariant.text;
      same = c.in_ok-write_noted_turn.ensures.same;
      end = c.loop-place.invariant.end;
    }
