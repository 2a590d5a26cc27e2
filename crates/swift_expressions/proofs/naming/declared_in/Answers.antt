use Rattle.std.proofs.Common.{arith}
use Rattle.swift_expressions.proofs.Scoped.{methods_end}
use Rattle.swift_expressions.proofs.naming.declared_in.Goals as goal

pub returns-clause-none : goal.returns-clause-none
returns-clause-none c = methods_end (omega (arith, c.loop-place-test.false, rw c.deref.ensures at c.len-place-end.ensures, c.args.lowering.now.tree.now.value.methods.ok.0)) c.loop-place.invariant
