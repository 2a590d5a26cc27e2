use Rattle.std.proofs.Common.{length, sym, arith, ◌∙◌}
use Rattle.swift_expressions.specs.States.{state_of}
use Rattle.swift_lowering.specs.Returning.{has_rest}
use Rattle.swift_lowering.proofs.Returning.{any_all, any_found, any_none, any_on, any_spent}
use Rattle.swift_lowering.proofs.returns.leaves_early.Goals as goal

pub loop-init : goal.loop-init
loop-init c = any_all (state_of c.args.lowering.now) (has_rest (state_of c.args.lowering.now)) (length c.args.lowering.now.tree.now.value.stmts.items) c.args.first

pub loop-preserved : goal.loop-preserved
loop-preserved c =
    any_on (state_of c.args.lowering.now) (has_rest (state_of c.args.lowering.now)) (length c.args.lowering.now.tree.now.value.stmts.items) c.loop.counter c.loop.place c.in-Some.stmt (omega (arith, c.loop-test.true, rw c.deref.ensures at c.len-end.ensures, c.args.lowering.now.tree.now.value.stmts.ok.0)) (sym c.in-Some.ensures) (sym c.has_rest.ensures ∙ c.if-has_rest.false) ∙ c.loop.invariant

pub returns-then-has_rest : goal.returns-then-has_rest
returns-then-has_rest c =
    any_found (state_of c.args.lowering.now) (has_rest (state_of c.args.lowering.now)) (length c.args.lowering.now.tree.now.value.stmts.items) c.loop.counter c.loop.place c.in-Some.stmt (omega (arith, c.loop-test.true, rw c.deref.ensures at c.len-end.ensures, c.args.lowering.now.tree.now.value.stmts.ok.0)) (sym c.in-Some.ensures) (sym c.has_rest.ensures ∙ c.if-has_rest.true) ∙ c.loop.invariant

pub returns-in_default : goal.returns-in_default
returns-in_default c = any_none (state_of c.args.lowering.now) (has_rest (state_of c.args.lowering.now)) _ c.loop.place (sym c.in_default.ensures) ∙ c.loop.invariant

pub returns : goal.returns
returns c =
    any_spent (state_of c.args.lowering.now) (has_rest (state_of c.args.lowering.now)) (length c.args.lowering.now.tree.now.value.stmts.items) c.loop.counter c.loop.place (omega (arith, c.loop-test.false, rw c.deref.ensures at c.len-end.ensures, c.args.lowering.now.tree.now.value.stmts.ok.0)) ∙ c.loop.invariant
