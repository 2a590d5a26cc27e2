use Rattle.run_pictures.proofs.Prelude.{◌≡◌, ◌-◌, ◌≤◌, ◌++◌, drop, length, cells_from, cells_of}
use Rattle.run_pictures.proofs.picture.cells.cells_of.Given as goal

abbrev pub invariant-loop-column : goal.invariant-loop-column
invariant-loop-column l = record {
  within : l.run ≤ l.column;
  end : l.column-end ≡ length l.quiet;
  cells : l.cells.items ++ cells_from (l.column - l.run) l.run (drop l.column l.quiet) ≡ cells_of l.quiet;
}
