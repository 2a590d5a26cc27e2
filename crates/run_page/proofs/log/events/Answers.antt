use Rattle.run_page.proofs.Prelude.{◌<◌, length, rules}
use Rattle.run_page.proofs.Events.{events_more}
use Rattle.run_page.proofs.log.events.Goals as goal

pub loop-place-preserved : goal.loop-place-preserved
loop-place-preserved c =
    let lt : c.loop-place.place < length c.args.log.now.events = search rules in
    record {
      text = events_more c.loop-place.place c.args.log.now.events c.event.result c.loop-place.out.items _ _ lt c.event.ensures c.in_ok-event.ensures c.loop-place.invariant.text;
      end = c.loop-place.invariant.end;
    }
