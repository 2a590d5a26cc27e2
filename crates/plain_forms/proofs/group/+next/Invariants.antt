use Rattle.std.proofs.Common.{map}
use Rattle.script_grammar.specs.Tree.{block_tree, view_stmt}
use Rattle.plain_parts.proofs.Sizes.{block_size, stmt_size}
use Rattle.plain_forms.proofs.group.+next.Given as goal

abbrev pub decreases-has_next : goal.decreases-has_next
decreases-has_next l = block_size (block_tree (map view_stmt l.stmts.now))

abbrev pub decreases-has_next_at : goal.decreases-has_next_at
decreases-has_next_at l = stmt_size (view_stmt l.stmt.now)
