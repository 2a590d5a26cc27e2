use Rattle.script_compiler.proofs.Prelude.{◌≡◌, suc, List, drop, length, map, refl, sym, ap, ◌∙◌, arith, at_drop_all, BYTES, Stmt, view_stmt, block_tree, ScopeView, followed, code_of, then_end, block_error, past_stmt, past_block, block_grows, from_next, left}
use Rattle.script_compiler.proofs.Blocks.{code_in, code_more, errors_more, names_more}
use Rattle.script_compiler.proofs.Room.{after_stands, size_next, size_left}
use Rattle.script_compiler.proofs.Statements.{headed_size, headed_fits, else_size, test_fits, held_fits, failed_fits, still_left}
use Rattle.script_compiler.proofs.lowering.block.+block.Goals as goal

pub block-statement-requires : goal.block-statement-requires
block-statement-requires t c =
    let xs = c.args.block.now in
    let i = c.loop-stmt.stmt-index in
    let x = c.stmt-item.result in
    let here = from_next (λ (ys : List Stmt). past_block (block_tree (map view_stmt ys)) c.loop-stmt.at ≡ past_block (block_tree (map view_stmt xs)) c.args.at.now) xs i x c.loop-stmt-test.true c.stmt-item.is c.loop-stmt.invariant.after in (
      omega (arith, c.decreases, size_next xs i x c.loop-stmt-test.true c.stmt-item.is, size_left xs i),
      (
        omega (arith, c.requires.names, here, block_grows (block_tree (map view_stmt (drop (suc i) xs))) (past_stmt (view_stmt x) c.loop-stmt.at)),
        omega (arith, c.loop-stmt.invariant.room, size_next xs i x c.loop-stmt-test.true c.stmt-item.is),
      ),
    )

pub block-loop-stmt-preserved : goal.block-loop-stmt-preserved
block-loop-stmt-preserved t c =
    let xs = c.args.block.now in
    let i = c.loop-stmt.stmt-index in
    let x = c.stmt-item.result in
    let s = c.loop-stmt.scope in
    let made = c.in_ok-statement.ensures in
    record {
      code = code_more c.args.plan.now s c.statement.new.scope xs i x (code_of c.loop-stmt.statements.items) (code_of c.statement.new.statements.items) _ c.loop-stmt-test.true c.stmt-item.is made.code made.scope c.loop-stmt.invariant.code;
      errors = errors_more s c.statement.new.scope c.loop-stmt.at c.statement.new.at xs i x _ c.loop-stmt-test.true c.stmt-item.is made.finds made.scope made.after c.loop-stmt.invariant.errors;
      after = names_more c.loop-stmt.at c.statement.new.at xs i x _ c.loop-stmt-test.true c.stmt-item.is made.after c.loop-stmt.invariant.after;
      room = omega (arith, c.loop-stmt.invariant.room, size_next xs i x c.loop-stmt-test.true c.stmt-item.is, after_stands s (view_stmt x), ap (λ (y : ScopeView). length y.kinds) made.scope);
      outside = ap (left c.outside-outside.result) made.scope ∙ still_left c.outside-outside.result s _ (view_stmt x) c.loop-stmt.invariant.count c.loop-stmt.invariant.kinds c.loop-stmt.invariant.outside;
      count = c.loop-stmt.invariant.count;
      kinds = c.loop-stmt.invariant.kinds;
    }

pub block-returns-clause-finds : goal.block-returns-clause-finds
block-returns-clause-finds t c =
    sym c.loop-stmt.invariant.errors ∙ at_drop_all (λ (ss : List Stmt). block_error c.loop-stmt.scope c.loop-stmt.at (block_tree (map view_stmt ss))) c.args.block.now c.loop-stmt.stmt-index (omega (arith, c.loop-stmt-test.false))

pub block-returns-clause-after : goal.block-returns-clause-after
block-returns-clause-after t c =
    sym (at_drop_all (λ (ss : List Stmt). past_block (block_tree (map view_stmt ss)) c.loop-stmt.at) c.args.block.now c.loop-stmt.stmt-index (omega (arith, c.loop-stmt-test.false))) ∙ c.loop-stmt.invariant.after

pub block-returns-clause-code : goal.block-returns-clause-code
block-returns-clause-code t c =
    sym (then_end (code_of c.loop-stmt.statements.items))
    ∙ sym (at_drop_all (λ (ss : List Stmt). followed (code_of c.loop-stmt.statements.items) (code_in c.args.plan.now c.loop-stmt.scope ss)) c.args.block.now c.loop-stmt.stmt-index (omega (arith, c.loop-stmt-test.false)))
    ∙ c.loop-stmt.invariant.code

pub block-returns-clause-scope : goal.block-returns-clause-scope
block-returns-clause-scope t c = c.leave.ensures ∙ c.loop-stmt.invariant.outside

pub statement-headed-requires : goal.statement-headed-requires
statement-headed-requires t c =
    let size = headed_size c.args.stmt.now c.in-Block.head c.in-Block.body c.deref-in-Block.result.now c.in-Block.is c.deref-in-Block.ensures.value in (
      omega (arith, c.decreases, size),
      (
        headed_fits c.args.stmt.now c.in-Block.head c.in-Block.body c.deref-in-Block.result.now c.args.at.now BYTES c.in-Block.is c.deref-in-Block.ensures.value c.requires.names,
        omega (arith, c.requires.room, size),
      ),
    )

pub statement-expression-requires : goal.statement-expression-requires
statement-expression-requires t c = test_fits c.args.stmt.now c.in-IfElse.test c.in-IfElse.held c.in-IfElse.failed c.args.at.now BYTES c.in-IfElse.is c.requires.names

pub statement-inner-requires : goal.statement-inner-requires
statement-inner-requires t c =
    let held = c.deref-in-IfElse.result.now in
    let size = else_size c.args.stmt.now c.in-IfElse.test c.in-IfElse.held c.in-IfElse.failed held c.in-IfElse.failed.items c.in-IfElse.is c.deref-in-IfElse.ensures.value refl in (
      omega (arith, c.decreases, size),
      (
        held_fits c.args.stmt.now c.in-IfElse.test c.in-IfElse.held c.in-IfElse.failed held c.args.at.now _ BYTES c.in-IfElse.is c.deref-in-IfElse.ensures.value c.in_ok-test-in-IfElse.ensures.after c.requires.names,
        omega (arith, c.requires.room, size),
      ),
    )

pub statement-inner-requires-in-IfElse : goal.statement-inner-requires-in-IfElse
statement-inner-requires-in-IfElse t c =
    let held = c.deref-in-IfElse.result.now in
    let failed = c.deref-in-IfElse-2.result.now in
    let kept = c.in_ok-held-in-IfElse.ensures.scope in
    let size = else_size c.args.stmt.now c.in-IfElse.test c.in-IfElse.held c.in-IfElse.failed held failed c.in-IfElse.is c.deref-in-IfElse.ensures.value c.deref-in-IfElse-2.ensures.value in (
      omega (arith, c.decreases, size),
      (
        failed_fits c.args.stmt.now c.in-IfElse.test c.in-IfElse.held c.in-IfElse.failed held failed c.args.at.now _ _ BYTES c.in-IfElse.is c.deref-in-IfElse.ensures.value c.deref-in-IfElse-2.ensures.value c.in_ok-test-in-IfElse.ensures.after c.in_ok-held-in-IfElse.ensures.after c.requires.names,
        omega (arith, c.requires.room, size, ap (λ (y : ScopeView). length y.kinds) kept),
      ),
    )
