use Rattle.std.proofs.Common.{codes, true}
use Rattle.swift_expressions.specs.declared.code.TheConstants.{NONE}
use Rattle.swift_translation.specs.ActorTexts.{has_requirement, pool_actor, pool_methods, requirement_text}
use Rattle.swift_translation.proofs.Writes.{four}
use Rattle.swift_translation.proofs.pool.write_pool_actor.Goals as goal

pub returns : goal.returns
unfolding pool_actor
returns c =
    four c.args.out.now c.say.new.self c.write_requirement.new.out c.write_pool_methods.new.out c.say-2.new.self
    (codes "\n// Closures run here.\nactor Task {") (requirement_text (has_requirement c.args.source.now NONE true)) (pool_methods c.args.source.now) (codes "\n}\n")
    c.say.ensures (rw c.has_requirement.ensures at c.write_requirement.ensures) c.write_pool_methods.ensures c.say-2.ensures
