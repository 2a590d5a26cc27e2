use Rattle.std.proofs.Common.{◌≡◌, ◌++◌, drop}
use Rattle.run_pictures.specs.Drawn.{slots_from}
use Rattle.run_pictures.proofs.picture.layout.slots_of.Given as goal

abbrev pub invariant-loop-slot : goal.invariant-loop-slot
invariant-loop-slot l = l.slots.items ++ slots_from l.slot (drop l.slot l.cells) ≡ slots_from 0 l.cells
