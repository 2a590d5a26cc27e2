use Rattle.script_compiler.proofs.Prelude.{arith, view_actor, actor_grows}
use Rattle.script_compiler.proofs.lowering.actor.actor.Goals as goal

pub unless_seen-requires : goal.unless_seen-requires
unless_seen-requires c = omega (arith, c.requires.names, actor_grows (view_actor c.args.actor.now) c.args.at.now)

pub at_name-requires : goal.at_name-requires
at_name-requires c = omega (arith, c.requires.names, actor_grows (view_actor c.args.actor.now) c.args.at.now)
