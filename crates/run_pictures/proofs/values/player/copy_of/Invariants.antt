use Rattle.run_pictures.proofs.Prelude.{◌≡◌, take, rows_of}
use Rattle.run_pictures.proofs.values.player.copy_of.Given as goal

abbrev pub invariant-loop-row : goal.invariant-loop-row
invariant-loop-row l = rows_of l.copy.items ≡ rows_of (take l.row-index l.rows)
