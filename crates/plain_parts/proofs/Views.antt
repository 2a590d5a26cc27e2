-- What trees a statement of the code is.
use Rattle.std.proofs.Common.{◌≡◌, map, Box, Vec, Global, rules}
use Rattle.script_grammar.specs.declared.expression.Expr.{Expr}
use Rattle.script_grammar.specs.declared.statement.Action.{Action}
use Rattle.script_grammar.specs.declared.statement.Head.{Head}
use Rattle.script_grammar.specs.declared.statement.Stmt.{Stmt, Do, Block, IfElse, the_lemmas}
use Rattle.script_grammar.specs.Tree.{block_tree, view, view_action, view_head, view_stmt}
use Rattle.script_grammar.specs.Tree as tree

pub of_action : (a : Box Action Global) → view_stmt (Do a) ≡ tree.Do (view_action a.value)
of_action a = search (rules, the_lemmas)

pub of_block : (h : Head) (b : Vec Stmt Global) → view_stmt (Block h b) ≡ tree.Headed (view_head h) (block_tree (map view_stmt b.items))
of_block h b = search (rules, the_lemmas)

pub of_choice : (e : Expr) (a b : Vec Stmt Global) → view_stmt (IfElse e a b) ≡ tree.IfElse (view e) (block_tree (map view_stmt a.items)) (block_tree (map view_stmt b.items))
of_choice e a b = search (rules, the_lemmas)
