use Rattle.script_printing.proofs.Prelude.{◌∙◌, sym, ap, arith, take_all, view_stmt}
use Rattle.script_printing.proofs.Written.{after_none, then_after}
use Rattle.script_printing.proofs.Blocks.{after_next_stmt, view_stmt-Do, view_stmt-Block, view_stmt-IfElse}
use Rattle.script_printing.proofs.statement.+statement.Goals as goal

pub write_stmts-loop-stmt-init : goal.write_stmts-loop-stmt-init
write_stmts-loop-stmt-init t c = sym (after_none c.args.out.now.items)

pub write_stmts-returns : goal.write_stmts-returns
write_stmts-returns t c = rw (take_all c.loop-stmt.stmt-index c.args.stmts.now c.loop-stmt-test.false) at c.loop-stmt.invariant

pub write_stmts-loop-stmt-preserved : goal.write_stmts-loop-stmt-preserved
write_stmts-loop-stmt-preserved t c =
    after_next_stmt c.args.stmts.now c.loop-stmt.stmt-index c.stmt-item.result (omega arith) c.stmt-item.is c.args.out.now.items c.loop-stmt.out.items _ c.loop-stmt.invariant c.in_ok-write_stmt.ensures

pub write_stmt-returns-in_ok-write-in-Do : goal.write_stmt-returns-in_ok-write-in-Do
write_stmt-returns-in_ok-write-in-Do t c =
    rw (ap view_stmt c.in-Do.is ∙ view_stmt-Do c.in-Do.action) (then_after c.write_sign.result c.args.out.now.items c.write.new.out.items c.write_sign.new.out.items _ _ (rw c.deref.ensures at c.in_ok-write-in-Do.ensures) c.write_sign.ensures)

pub write_stmt-returns-in_ok-write-in-Block : goal.write_stmt-returns-in_ok-write-in-Block
write_stmt-returns-in_ok-write-in-Block t c =
    rw (ap view_stmt c.in-Block.is ∙ view_stmt-Block c.in-Block.head c.in-Block.block) (then_after c.write_block.result c.args.out.now.items c.write-in-Block.new.out.items c.write_block.new.out.items _ _ c.in_ok-write-in-Block.ensures (rw c.deref-in-Block.ensures.value at c.write_block.ensures))

pub write_stmt-returns-in_ok-write_keyword-in-IfElse : goal.write_stmt-returns-in_ok-write_keyword-in-IfElse
write_stmt-returns-in_ok-write_keyword-in-IfElse t c =
    let now = c.write_block-in-IfElse-2.new.out.items in
    let last = then_after c.write_block-in-IfElse-2.result c.write_block-in-IfElse.new.out.items c.write_keyword.new.out.items now _ _ c.in_ok-write_keyword-in-IfElse.ensures (rw c.deref-in-IfElse-2.ensures.value at c.write_block-in-IfElse-2.ensures) in
    let rest = then_after c.write_block-in-IfElse-2.result c.write_with_keyword.new.out.items c.write_block-in-IfElse.new.out.items now _ _ (rw c.deref-in-IfElse.ensures.value at c.in_ok-write_block-in-IfElse.ensures) last in
    rw (ap view_stmt c.in-IfElse.is ∙ view_stmt-IfElse c.in-IfElse.test c.in-IfElse.held c.in-IfElse.failed) (then_after c.write_block-in-IfElse-2.result c.args.out.now.items c.write_with_keyword.new.out.items now _ _ c.in_ok-write_with_keyword-in-IfElse.ensures rest)
