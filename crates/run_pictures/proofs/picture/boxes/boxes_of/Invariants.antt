use Rattle.run_pictures.proofs.Prelude.{◌≡◌, ◌++◌, drop, boxes_of}
use Rattle.run_pictures.proofs.picture.boxes.boxes_of.Given as goal

abbrev pub invariant-loop-executor : goal.invariant-loop-executor
invariant-loop-executor l = l.boxes.items ++ boxes_of l.executor (drop l.executor l.journals) ≡ boxes_of 0 l.journals
