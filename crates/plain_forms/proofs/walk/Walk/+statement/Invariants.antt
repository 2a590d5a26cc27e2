use Rattle.std.proofs.Common.{map}
use Rattle.script_grammar.specs.Tree.{block_tree, view_stmt}
use Rattle.plain_parts.proofs.Sizes.{block_size, stmt_size}
use Rattle.plain_forms.proofs.walk.Walk.+statement.Given as goal

abbrev pub decreases-stmts : goal.decreases-stmts
decreases-stmts l = block_size (block_tree (map view_stmt l.stmts.now))

abbrev pub decreases-stmt : goal.decreases-stmt
decreases-stmt l = stmt_size (view_stmt l.stmt.now)
