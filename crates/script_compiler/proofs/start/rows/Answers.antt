use Rattle.script_compiler.proofs.Prelude.{◌++◌, ◌∙◌, List, map, sym, append-nil, at_drop_all, ActorId, rows_of, actor_number, actor_view, rows_among}
use Rattle.script_compiler.proofs.start.rows.Goals as goal

pub returns : goal.returns
returns c =
    sym (append-nil (rows_of c.loop-member.rows.items))
    ∙ sym (at_drop_all (λ (ms : List ActorId). rows_of c.loop-member.rows.items ++ rows_among (map actor_view c.args.actors.now) (map actor_number ms)) c.args.members.now c.loop-member.member-index c.loop-member-test.false)
    ∙ c.loop-member.invariant
