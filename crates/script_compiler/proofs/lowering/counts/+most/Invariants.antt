use Rattle.script_compiler.proofs.Prelude.{◌≡◌, ◌≤◌, ◌+◌, drop, map, view_stmt, block_tree, block_size, greater, most_of, greatest}
use Rattle.script_compiler.proofs.lowering.counts.+most.Given as goal

abbrev pub invariant-most_of-loop-stmt : goal.invariant-most_of-loop-stmt
invariant-most_of-loop-stmt l = record {
  most : greater l.most (most_of l.standing (block_tree (map view_stmt (drop l.stmt-index l.block)))) ≡ most_of l.fn.counts (block_tree (map view_stmt l.block));
  room : l.standing.numbers + (l.standing.handles + block_size (block_tree (map view_stmt (drop l.stmt-index l.block)))) ≤ greatest;
}
