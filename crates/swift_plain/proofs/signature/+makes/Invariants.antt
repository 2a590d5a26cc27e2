use Rattle.std.proofs.Common.{map}
use Rattle.script_grammar.specs.Tree.{block_tree, view_stmt}
use Rattle.plain_parts.proofs.Sizes.{block_size, stmt_size}
use Rattle.swift_plain.proofs.signature.+makes.Given as goal

abbrev pub decreases-makes_throwing : goal.decreases-makes_throwing
decreases-makes_throwing l = block_size (block_tree (map view_stmt l.stmts.now))

abbrev pub decreases-makes_throwing_at : goal.decreases-makes_throwing_at
decreases-makes_throwing_at l = stmt_size (view_stmt l.stmt.now)
