use Rattle.std.proofs.Common.{map}
use Rattle.script_grammar.specs.Tree.{block_tree, view_stmt}
use Rattle.plain_parts.proofs.Sizes.{block_size, stmt_size}
use Rattle.plain_parts.proofs.flow.+ends.Given as goal

abbrev pub decreases-ends : goal.decreases-ends
decreases-ends l = block_size (block_tree (map view_stmt l.stmts.now))

abbrev pub decreases-ends_at : goal.decreases-ends_at
decreases-ends_at l = stmt_size (view_stmt l.stmt.now)
