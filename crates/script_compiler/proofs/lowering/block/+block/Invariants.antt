use Rattle.script_compiler.proofs.Prelude.{◌≡◌, ◌≤◌, ◌+◌, ◌*◌, drop, length, map, view_stmt, block_tree, stmt_size, block_size, greatest, code_of, followed, block_error, past_block, left}
use Rattle.script_compiler.proofs.Blocks.{code_in}
use Rattle.script_compiler.proofs.lowering.block.+block.Given as goal

abbrev pub decreases-statement : goal.decreases-statement
decreases-statement l = 5 * stmt_size (view_stmt l.stmt.now)

abbrev pub decreases-block : goal.decreases-block
decreases-block l = 5 * block_size (block_tree (map view_stmt l.block.now)) + 1

abbrev pub decreases-inner : goal.decreases-inner
decreases-inner l = 5 * block_size (block_tree (map view_stmt l.body.now)) + 2

abbrev pub decreases-assumed : goal.decreases-assumed
decreases-assumed l = 5 * block_size (block_tree (map view_stmt l.body.now)) + 3

abbrev pub decreases-headed : goal.decreases-headed
decreases-headed l = 5 * block_size (block_tree (map view_stmt l.body.now)) + 4

abbrev pub invariant-block-loop-stmt : goal.invariant-block-loop-stmt
invariant-block-loop-stmt l = record {
  code : followed (code_of l.statements.items) (code_in l.plan l.scope (drop l.stmt-index l.block)) ≡ followed (code_of l.initial.statements.items) (code_in l.plan l.initial.scope l.block);
  errors : block_error l.scope l.at (block_tree (map view_stmt (drop l.stmt-index l.block))) ≡ block_error l.initial.scope l.initial.at (block_tree (map view_stmt l.block));
  after : past_block (block_tree (map view_stmt (drop l.stmt-index l.block))) l.at ≡ past_block (block_tree (map view_stmt l.block)) l.initial.at;
  room : length l.scope.kinds + block_size (block_tree (map view_stmt (drop l.stmt-index l.block))) ≤ greatest;
  outside : left l.outside l.scope ≡ l.initial.scope;
  count : l.outside.names ≡ length l.initial.scope.names;
  kinds : length l.initial.scope.kinds ≡ length l.initial.scope.names;
}
