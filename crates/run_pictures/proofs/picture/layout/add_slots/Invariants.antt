use Rattle.std.proofs.Common.{◌≡◌, ◌++◌, replicate}
use Rattle.run_pictures.proofs.picture.layout.add_slots.Given as goal

abbrev pub invariant-loop-turn : goal.invariant-loop-turn
invariant-loop-turn l = l.slots.items ≡ l.initial.slots.items ++ replicate l._turn l.slot
