use Rattle.run_pictures.proofs.Prelude.{◌≡◌, ◌++◌, drop, length, map, box_of}
use Rattle.run_pictures.proofs.picture.boxes.add_boxes.Given as goal

abbrev pub invariant-loop-place : goal.invariant-loop-place
invariant-loop-place l = record {
  boxes : l.boxes.items ++ map (box_of l.executor) (drop l.place l.journal) ≡ l.initial.boxes.items ++ map (box_of l.executor) l.journal;
  end : l.place-end ≡ length l.journal;
}
