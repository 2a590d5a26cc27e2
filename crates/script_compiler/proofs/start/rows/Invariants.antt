use Rattle.script_compiler.proofs.Prelude.{◌≡◌, ◌++◌, map, drop, rows_of, actor_number, actor_view, rows_among}
use Rattle.script_compiler.proofs.start.rows.Given as goal

abbrev pub invariant-loop-member : goal.invariant-loop-member
invariant-loop-member l = rows_of l.rows.items ++ rows_among (map actor_view l.actors) (map actor_number (drop l.member-index l.members)) ≡ rows_among (map actor_view l.actors) (map actor_number l.members)
