use Rattle.std.proofs.Common.{◌-◌, length, sym, arith, ◌∙◌}
use Rattle.swift_syntax.specs.declared.tree.Stmt.{Stmt}
use Rattle.swift_expressions.specs.States.{state_of}
use Rattle.swift_lowering.specs.Returning.{block_returns, returns_by}
use Rattle.swift_lowering.proofs.Returning.{any_all, any_found, any_none, any_on, any_spent, block_deeper, block_unseen}
use Rattle.swift_lowering.proofs.returns.+returns.Goals as goal

pub block_returns-returns-then-depth-eq0 : goal.block_returns-returns-then-depth-eq0
block_returns-returns-then-depth-eq0 t c = block_unseen (state_of c.args.lowering.now) c.args.depth c.args.first c.if-depth-eq0.true

pub block_returns-loop-init : goal.block_returns-loop-init
block_returns-loop-init t c = any_all (state_of c.args.lowering.now) _ (length c.args.lowering.now.tree.now.value.stmts.items) c.args.first

pub block_returns-loop-preserved : goal.block_returns-loop-preserved
block_returns-loop-preserved t c =
    any_on (state_of c.args.lowering.now) (λ (stmt : Stmt). returns_by (block_returns (state_of c.args.lowering.now) (c.args.depth - 1)) stmt.form) (length c.args.lowering.now.tree.now.value.stmts.items) c.loop.counter c.loop.place c.in-Some.stmt (omega (arith, c.loop-test.true, rw c.deref.ensures at c.len-end.ensures, c.args.lowering.now.tree.now.value.stmts.ok.0)) (sym c.in-Some.ensures) (sym c.returns.ensures ∙ c.if-returns.false) ∙ c.loop.invariant

pub block_returns-returns-then-returns : goal.block_returns-returns-then-returns
block_returns-returns-then-returns t c =
    any_found (state_of c.args.lowering.now) (λ (stmt : Stmt). returns_by (block_returns (state_of c.args.lowering.now) (c.args.depth - 1)) stmt.form) (length c.args.lowering.now.tree.now.value.stmts.items) c.loop.counter c.loop.place c.in-Some.stmt (omega (arith, c.loop-test.true, rw c.deref.ensures at c.len-end.ensures, c.args.lowering.now.tree.now.value.stmts.ok.0)) (sym c.in-Some.ensures) (sym c.returns.ensures ∙ c.if-returns.true)
    ∙ c.loop.invariant ∙ block_deeper (state_of c.args.lowering.now) c.args.depth c.args.first (omega (arith, c.if-depth-eq0.false))

pub block_returns-returns-in_default : goal.block_returns-returns-in_default
block_returns-returns-in_default t c =
    any_none (state_of c.args.lowering.now) _ _ c.loop.place (sym c.in_default.ensures) ∙ c.loop.invariant ∙ block_deeper (state_of c.args.lowering.now) c.args.depth c.args.first (omega (arith, c.if-depth-eq0.false))

pub block_returns-returns : goal.block_returns-returns
block_returns-returns t c =
    any_spent (state_of c.args.lowering.now) _ (length c.args.lowering.now.tree.now.value.stmts.items) c.loop.counter c.loop.place (omega (arith, c.loop-test.false, rw c.deref.ensures at c.len-end.ensures, c.args.lowering.now.tree.now.value.stmts.ok.0)) ∙ c.loop.invariant ∙ block_deeper (state_of c.args.lowering.now) c.args.depth c.args.first (omega (arith, c.if-depth-eq0.false))
