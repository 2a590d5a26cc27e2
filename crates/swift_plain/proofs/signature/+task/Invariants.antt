use Rattle.std.proofs.Common.{map}
use Rattle.script_grammar.specs.Tree.{block_tree, view_stmt}
use Rattle.plain_parts.proofs.Sizes.{block_size, stmt_size}
use Rattle.swift_plain.proofs.signature.+task.Given as goal

abbrev pub decreases-task_throws : goal.decreases-task_throws
decreases-task_throws l = block_size (block_tree (map view_stmt l.stmts.now))

abbrev pub decreases-task_throws_at : goal.decreases-task_throws_at
decreases-task_throws_at l = stmt_size (view_stmt l.stmt.now)
