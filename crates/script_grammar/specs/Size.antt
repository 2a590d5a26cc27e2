-- The size of a script: how many declarations, fields, methods, parameters and statements it has. (Own.)
use Rattle.std.specs.Prelude.{ℕ, suc, ◌+◌, List, [], ◌∷◌, length}
use Rattle.script_grammar.specs.Tree.{StmtTree, Do, Headed, IfElse, BlockTree, nothing, first_then, block_tree, MethodTree, ActorTree, DeclTree, Executes, Binds, Acts, Roots}

abbrev mutual
  -- the size of a statement: 1, and the sizes of its blocks
  pub stmt_size : StmtTree → ℕ
  stmt_size (Do a) = 1
  stmt_size (Headed h b) = suc (block_size b)
  stmt_size (IfElse t a b) = suc (block_size a + block_size b)

  -- the size of a block: the sizes of its statements, together
  pub block_size : BlockTree → ℕ
  block_size nothing = 0
  block_size (first_then s ss) = stmt_size s + block_size ss

-- the size of a method: 1, one for each parameter, and the size of its block
abbrev pub method_size : MethodTree → ℕ
method_size m = suc (length m.params + block_size (block_tree m.body))

-- the sizes of methods, together
abbrev pub methods_size : List MethodTree → ℕ
methods_size [] = 0
methods_size (m ∷ ms) = method_size m + methods_size ms

-- the size of an actor: 1, one for each field, and the sizes of its methods
abbrev pub actor_size : ActorTree → ℕ
actor_size a = suc (length a.fields + methods_size a.methods)

-- the size of a declaration: that of an actor, and else 1
abbrev pub decl_size : DeclTree → ℕ
decl_size (Executes x) = 1
decl_size (Binds l) = 1
decl_size (Acts a) = actor_size a
decl_size (Roots r) = 1

-- the size of a script: the sizes of its declarations, together
abbrev pub script_size : List DeclTree → ℕ
script_size [] = 0
script_size (x ∷ xs) = decl_size x + script_size xs
