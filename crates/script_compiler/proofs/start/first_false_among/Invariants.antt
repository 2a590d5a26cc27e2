use Rattle.script_compiler.proofs.Prelude.{◌≡◌, map, drop, actor_view, first_false_in, all_rows_of}
use Rattle.script_compiler.proofs.start.first_false_among.Given as goal

abbrev pub invariant-loop-k : goal.invariant-loop-k
invariant-loop-k l = first_false_in (all_rows_of l.all) l.k (map actor_view (drop l.k l.actors)) ≡ first_false_in (all_rows_of l.all) 0 (map actor_view l.actors)
