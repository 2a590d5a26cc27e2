use Rattle.std.proofs.Common.{◌≡◌, length}
use Rattle.run_pictures.proofs.picture.quiet.quiet_turns.Given as goal

abbrev pub invariant-loop-place : goal.invariant-loop-place
invariant-loop-place l = length l.quiet.items ≡ length l.picture.boxes.items
