use Rattle.run_pictures.proofs.Prelude.{◌≡◌, drop, take, length, rows_of}
use Rattle.run_pictures.proofs.values.differences.follow.Given as goal

abbrev pub invariant-loop-actor : goal.invariant-loop-actor
invariant-loop-actor l = record {
  done : take l.actor (rows_of l.fields) ≡ take l.actor (rows_of l.after);
  left : drop l.actor (rows_of l.fields) ≡ drop l.actor (rows_of l.initial.fields);
  many : length (rows_of l.fields) ≡ length (rows_of l.initial.fields);
}
