-- How large statements and blocks are: what gets less where a function goes into them.
use Rattle.std.proofs.Common.{ℕ, suc, ◌+◌}
use Rattle.script_grammar.specs.Tree.{StmtTree, Do, Headed, IfElse, BlockTree, nothing, first_then}

abbrev mutual
  pub block_size : BlockTree → ℕ
  block_size nothing = 1
  block_size (first_then s b) = suc (stmt_size s + block_size b)

  pub stmt_size : StmtTree → ℕ
  stmt_size (Do a) = 1
  stmt_size (Headed h b) = suc (block_size b)
  stmt_size (IfElse e a b) = suc (block_size a + block_size b)
