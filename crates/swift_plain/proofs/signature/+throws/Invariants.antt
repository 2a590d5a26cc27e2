use Rattle.std.proofs.Common.{map}
use Rattle.script_grammar.specs.Tree.{block_tree, view_stmt}
use Rattle.plain_parts.proofs.Sizes.{block_size, stmt_size}
use Rattle.swift_plain.proofs.signature.+throws.Given as goal

abbrev pub decreases-throws : goal.decreases-throws
decreases-throws l = block_size (block_tree (map view_stmt l.stmts.now))

abbrev pub decreases-throws_at : goal.decreases-throws_at
decreases-throws_at l = stmt_size (view_stmt l.stmt.now)
