use Rattle.script_compiler.proofs.Prelude.{rules, ◌∙◌, List, map, sym, arith, at_drop_all, Stmt, the_lemmas, view_stmt, block_tree, greater, most_of}
use Rattle.script_compiler.proofs.Room.{not_empty, size_next}
use Rattle.script_compiler.proofs.lowering.counts.+most.Goals as goal

pub most_of-most_in-requires : goal.most_of-most_in-requires
most_of-most_in-requires t c =
    (search (rules, the_lemmas), omega (arith, c.loop-stmt.invariant.room, size_next c.args.block.now c.loop-stmt.stmt-index c.stmt-item.result c.loop-stmt-test.true c.stmt-item.is))

pub most_of-counts_after-standing-requires : goal.most_of-counts_after-standing-requires
most_of-counts_after-standing-requires t c =
    omega (arith, c.loop-stmt.invariant.room, not_empty (view_stmt c.stmt-item.result), size_next c.args.block.now c.loop-stmt.stmt-index c.stmt-item.result c.loop-stmt-test.true c.stmt-item.is)

pub most_of-returns : goal.most_of-returns
most_of-returns t c =
    c.greater.ensures ∙ sym (at_drop_all (λ (ss : List Stmt). greater c.loop-stmt.most (most_of c.loop-stmt.standing (block_tree (map view_stmt ss)))) c.args.block.now c.loop-stmt.stmt-index c.loop-stmt-test.false) ∙ c.loop-stmt.invariant.most
