use Rattle.std.proofs.Common.{◌≡◌, take}
use Rattle.explorer_progress.proofs.again.are_same_changes.Given as goal

abbrev pub invariant-loop-place : goal.invariant-loop-place
invariant-loop-place l = take l.place l.ones ≡ take l.place l.others
