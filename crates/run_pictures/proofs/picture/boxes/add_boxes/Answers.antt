use Rattle.run_pictures.proofs.Prelude.{◌<◌, length, rules}
use Rattle.run_pictures.proofs.More.{boxes_more}
use Rattle.run_pictures.proofs.picture.boxes.add_boxes.Goals as goal

pub loop-place-preserved : goal.loop-place-preserved
loop-place-preserved c =
    let lt : c.loop-place.place < length c.args.journal.now = search rules in
    record {
      boxes = boxes_more c.args.executor c.loop-place.place c.args.journal.now c.box_at.result c.loop-place.boxes.items _ _ lt c.box_at.ensures (search rules) c.loop-place.invariant.boxes;
      end = c.loop-place.invariant.end;
    }
