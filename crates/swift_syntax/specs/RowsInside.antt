-- What a call puts into a table, for proofs. (Own.)
use Rattle.std.specs.Prelude.{◌≡◌}
use Rattle.swift_syntax.specs.Declarations.{Rows, rows_of}
use Rattle.swift_syntax.specs.declared.reader.Reader.{Reader}

-- Only the rows are changed: they are now these.
pub record ArePut (before after : Reader) (wanted : Rows) : Type 0 where
  pub at : after.at ≡ before.at
  pub stmts : after.tree.value.stmts ≡ before.tree.value.stmts
  pub rows : rows_of after.tree.value ≡ wanted
