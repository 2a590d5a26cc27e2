use Rattle.std.proofs.Common.{arith}
use Rattle.swift_expressions.proofs.Scoped.{actors_end}
use Rattle.swift_expressions.proofs.naming.actor_named.Goals as goal

pub returns-clause-none : goal.returns-clause-none
returns-clause-none c = actors_end (omega (arith, c.loop-place-test.false, rw c.deref.ensures at c.len-place-end.ensures, c.args.lowering.now.tree.now.value.actors.ok.0)) c.loop-place.invariant
