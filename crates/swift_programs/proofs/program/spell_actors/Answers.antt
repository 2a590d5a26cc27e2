use Rattle.std.proofs.Common.{arith, sym}
use Rattle.std.proofs.lemmas.List.{append-nil, take_all}
use Rattle.swift_programs.specs.Programs.{actor_text}
use Rattle.swift_programs.proofs.Wrote.{wrote_more}
use Rattle.swift_programs.proofs.program.spell_actors.Goals as goal

pub loop-actor-init : goal.loop-actor-init
loop-actor-init c = sym (append-nil c.args.out.now.items)

pub loop-actor-preserved : goal.loop-actor-preserved
loop-actor-preserved c =
    wrote_more actor_text c.args.actors.now c.loop-actor.actor-index c.actor-item.result (omega arith) c.actor-item.is c.args.out.now.items c.loop-actor.out.items _ c.loop-actor.invariant c.in_ok-spell_actor.ensures

pub returns : goal.returns
returns c = rw (take_all c.loop-actor.actor-index c.args.actors.now (omega (arith, c.loop-actor-test.false))) at c.loop-actor.invariant
