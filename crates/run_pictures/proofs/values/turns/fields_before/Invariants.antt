use Rattle.run_pictures.proofs.Prelude.{◌≡◌, take, slice_range, rows_of, replay}
use Rattle.run_pictures.proofs.values.turns.fields_before.Given as goal

abbrev pub invariant-loop-earlier : goal.invariant-loop-earlier
invariant-loop-earlier l = record {
  fields : replay l.script (rows_of l.player.fields.items) (slice_range l.journal l.earlier l.place) ≡ replay l.script (rows_of l.start) (take l.place l.journal);
  same : rows_of l.player.turn.fields.items ≡ rows_of l.player.fields.items;
}
