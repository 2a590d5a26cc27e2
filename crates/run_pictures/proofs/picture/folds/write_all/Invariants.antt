use Rattle.std.proofs.Common.{ℕ, List, ◌++◌, drop}
use Rattle.run_pictures.specs.Drawn.{AreFolds}
use Rattle.run_pictures.specs.SaysInside.{Says}
use Rattle.run_pictures.proofs.picture.folds.write_all.Given as goal

abbrev pub invariant-loop-slot : goal.invariant-loop-slot
invariant-loop-slot l = (words : List ℕ) × Says l.initial.out l.out words
    × ((more : List ℕ) → AreFolds (drop l.slot l.layout.cells.items) more → AreFolds l.layout.cells.items (words ++ more))
