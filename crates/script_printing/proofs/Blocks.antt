-- The statements of a block, one after the other.
use Rattle.script_printing.proofs.Prelude.{◌≡◌, ◌++◌, ◌∷◌, [], ℕ, List, ap, sym, refl, ◌∙◌, ◌+◌, ◌<◌, length, map, take, Vec, Global, rules, flat_map, get_or, StmtTree, block_tree, view, view_action, view_head, view_stmt, pieces_of_stmt, pieces_of_block, after}
use Rattle.std.proofs.Common.{Box}
use Rattle.script_grammar.specs.declared.expression.Expr.{Expr}
use Rattle.script_grammar.specs.declared.statement.Action.{Action}
use Rattle.script_grammar.specs.declared.statement.Head.{Head}
use Rattle.script_grammar.specs.declared.statement.Stmt.{Stmt, Do, Block, IfElse, the_lemmas}
use Rattle.script_grammar.specs.Tree as tree
use Rattle.script_printing.proofs.Written.{after_next}

pub pieces-block_tree : (ss : List StmtTree) → pieces_of_block (block_tree ss) ≡ flat_map pieces_of_stmt ss
pieces-block_tree [] = refl
pieces-block_tree (s ∷ ss) = ap (λ ps. pieces_of_stmt s ++ ps) (pieces-block_tree ss)

-- one more statement
pub after_next_stmt : (xs : List Stmt) (i : ℕ) (x : Stmt) → i < length xs → x ≡ get_or xs i x → (start before now : List ℕ) → before ≡ after start (pieces_of_block (block_tree (map view_stmt (take i xs)))) → now ≡ after before (pieces_of_stmt (view_stmt x)) → now ≡ after start (pieces_of_block (block_tree (map view_stmt (take (i + 1) xs))))
after_next_stmt xs i x h e start before now p q =
    after_next pieces_of_stmt view_stmt xs i x h e start before now (p ∙ ap (after start) (pieces-block_tree (map view_stmt (take i xs)))) q ∙ ap (after start) (sym (pieces-block_tree (map view_stmt (take (i + 1) xs))))

pub view_stmt-Do : (a : Box Action Global) → view_stmt (Do a) ≡ tree.Do (view_action a.value)
view_stmt-Do a = search (rules, the_lemmas)

pub view_stmt-Block : (h : Head) (b : Vec Stmt Global) → view_stmt (Block h b) ≡ tree.Headed (view_head h) (block_tree (map view_stmt b.items))
view_stmt-Block h b = search (rules, the_lemmas)

pub view_stmt-IfElse : (e : Expr) (a b : Vec Stmt Global) → view_stmt (IfElse e a b) ≡ tree.IfElse (view e) (block_tree (map view_stmt a.items)) (block_tree (map view_stmt b.items))
view_stmt-IfElse e a b = search (rules, the_lemmas)
