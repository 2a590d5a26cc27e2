use Rattle.script_printing.proofs.Prelude.{◌≡◌, map, take, view_stmt, block_tree, pieces_of_block, after}
use Rattle.script_printing.proofs.statement.+statement.Given as goal

abbrev pub invariant-write_stmts-loop-stmt : goal.invariant-write_stmts-loop-stmt
invariant-write_stmts-loop-stmt l = l.out.items ≡ after l.initial.out.items (pieces_of_block (block_tree (map view_stmt (take l.stmt-index l.stmts))))
