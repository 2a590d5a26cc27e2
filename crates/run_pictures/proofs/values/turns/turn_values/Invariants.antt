use Rattle.run_pictures.proofs.Prelude.{◌≡◌, ◌++◌, drop, rows_of, values_from, values_views}
use Rattle.run_pictures.proofs.values.turns.turn_values.Given as goal

abbrev pub invariant-loop-place : goal.invariant-loop-place
invariant-loop-place l = record {
  values : values_views l.turns.items ++ values_from l.script (rows_of l.player.fields.items) (drop l.place l.journal) ≡ values_from l.script (rows_of l.start) l.journal;
  same : rows_of l.player.turn.fields.items ≡ rows_of l.player.fields.items;
}
