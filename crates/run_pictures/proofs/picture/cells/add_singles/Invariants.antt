use Rattle.run_pictures.proofs.Prelude.{◌≡◌, ◌+◌, ◌-◌, ◌++◌, single_cells}
use Rattle.run_pictures.proofs.picture.cells.add_singles.Given as goal

abbrev pub invariant-loop-place : goal.invariant-loop-place
invariant-loop-place l = l.cells.items ++ single_cells (l.first + l.place) (l.turns - l.place) ≡ l.initial.cells.items ++ single_cells l.first l.turns
