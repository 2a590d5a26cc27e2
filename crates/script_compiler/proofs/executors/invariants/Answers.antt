use Rattle.script_compiler.proofs.Prelude.{◌++◌, ◌∙◌, List, map, sym, append-nil, at_drop_all, ActorId, terms_of, invariants_among, actor_number, actor_view}
use Rattle.script_compiler.proofs.executors.invariants.Goals as goal

pub returns : goal.returns
returns c =
    sym (append-nil (terms_of c.loop-member.invariants.items))
    ∙ sym (at_drop_all (λ (ms : List ActorId). terms_of c.loop-member.invariants.items ++ invariants_among (map actor_view c.args.actors.now) (map actor_number ms)) c.args.members.now c.loop-member.member-index c.loop-member-test.false)
    ∙ c.loop-member.invariant
