use Rattle.std.proofs.Common.{map}
use Rattle.script_grammar.specs.Tree.{block_tree, view_stmt}
use Rattle.plain_parts.proofs.Sizes.{block_size, stmt_size}
use Rattle.swift_plain.proofs.statement.+statement.Given as goal

abbrev pub decreases-say_stmts : goal.decreases-say_stmts
decreases-say_stmts l = block_size (block_tree (map view_stmt l.stmts.now))

abbrev pub decreases-say_else : goal.decreases-say_else
decreases-say_else l = block_size (block_tree (map view_stmt l.failed.now))

abbrev pub decreases-say_stmt : goal.decreases-say_stmt
decreases-say_stmt l = stmt_size (view_stmt l.stmt.now)

abbrev pub decreases-say_choice : goal.decreases-say_choice
decreases-say_choice l = stmt_size (view_stmt l.stmt.now)
