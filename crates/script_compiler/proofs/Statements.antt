-- Statements with blocks of their own.
use Rattle.script_compiler.proofs.Prelude.{rules, ◌≡◌, ℕ, suc, ◌+◌, ◌≤◌, List, [], ◌∷◌, ◌++◌, length, map, take, sym, ap, ◌∙◌, arith, take-append-le, length-take, StmtTree, block_tree, view, view_head, view_stmt, stmt_size, block_size, Expr, Stmt, Block, the_lemmas, NameKind, ScopeView, with_standing, past, past_head, past_stmt, past_block, block_grows, scope_after, left}
use Rattle.std.specs.Global.{Vec}
use Rattle.script_grammar.specs.Tree as tree
use Rattle.script_grammar.specs.declared.statement.Head.{Head}
use Rattle.script_grammar.specs.declared.statement.Stmt.{IfElse}
use Rattle.script_names.specs.declared.scope.NameKind.TheVariants as kind
use Rattle.script_names.specs.declared.scope.Outside.{Outside}

view-Block : (h : Head) (b : Vec Stmt) → view_stmt (Block h b) ≡ tree.Headed (view_head h) (block_tree (map view_stmt b.items))
view-Block h b = search (rules, the_lemmas)

view-IfElse : (e : Expr) (a b : Vec Stmt) → view_stmt (IfElse e a b) ≡ tree.IfElse (view e) (block_tree (map view_stmt a.items)) (block_tree (map view_stmt b.items))
view-IfElse e a b = search (rules, the_lemmas)

-- the sizes of statements with blocks
pub headed_size : (x : Stmt) (h : Head) (b : Vec Stmt) (body : List Stmt) → x ≡ Block h b → body ≡ b.items → stmt_size (view_stmt x) ≡ suc (block_size (block_tree (map view_stmt body)))
headed_size x h b body is same = ap stmt_size (ap view_stmt is ∙ view-Block h b) ∙ ap (λ (ss : List Stmt). suc (block_size (block_tree (map view_stmt ss)))) (sym same)

pub else_size : (x : Stmt) (e : Expr) (a b : Vec Stmt) (held failed : List Stmt) → x ≡ IfElse e a b → held ≡ a.items → failed ≡ b.items
    → stmt_size (view_stmt x) ≡ suc (block_size (block_tree (map view_stmt held)) + block_size (block_tree (map view_stmt failed)))
else_size x e a b held failed is same same' =
    ap stmt_size (ap view_stmt is ∙ view-IfElse e a b)
    ∙ ap (λ (ss : List Stmt). suc (block_size (block_tree (map view_stmt ss)) + block_size (block_tree (map view_stmt b.items)))) (sym same)
    ∙ ap (λ (ss : List Stmt). suc (block_size (block_tree (map view_stmt held)) + block_size (block_tree (map view_stmt ss)))) (sym same')

-- a head and its block have no more names than their statement
pub headed_fits : (x : Stmt) (h : Head) (b : Vec Stmt) (body : List Stmt) (at n : ℕ) → x ≡ Block h b → body ≡ b.items → past_stmt (view_stmt x) at ≤ n → past_block (block_tree (map view_stmt body)) (past_head (view_head h) at) ≤ n
headed_fits x h b body at n is same fits =
    omega (arith, fits, ap (λ (s : StmtTree). past_stmt s at) (ap view_stmt is ∙ view-Block h b), ap (λ (ss : List Stmt). past_block (block_tree (map view_stmt ss)) (past_head (view_head h) at)) same)

-- nor have the test and the first block of a statement with two
first_fits : (x : Stmt) (e : Expr) (a b : Vec Stmt) (at n : ℕ) → x ≡ IfElse e a b → past_stmt (view_stmt x) at ≤ n → past_block (block_tree (map view_stmt a.items)) (past (view e) at) ≤ n
first_fits x e a b at n is fits =
    omega (arith, fits, ap (λ (s : StmtTree). past_stmt s at) (ap view_stmt is ∙ view-IfElse e a b), block_grows (block_tree (map view_stmt b.items)) (past_block (block_tree (map view_stmt a.items)) (past (view e) at)))

pub test_fits : (x : Stmt) (e : Expr) (a b : Vec Stmt) (at n : ℕ) → x ≡ IfElse e a b → past_stmt (view_stmt x) at ≤ n → past (view e) at ≤ n
test_fits x e a b at n is fits = omega (arith, first_fits x e a b at n is fits, block_grows (block_tree (map view_stmt a.items)) (past (view e) at))

pub held_fits : (x : Stmt) (e : Expr) (a b : Vec Stmt) (held : List Stmt) (at next n : ℕ) → x ≡ IfElse e a b → held ≡ a.items → next ≡ past (view e) at → past_stmt (view_stmt x) at ≤ n → past_block (block_tree (map view_stmt held)) next ≤ n
held_fits x e a b held at next n is same on fits =
    let here : past_block (block_tree (map view_stmt held)) next ≡ past_block (block_tree (map view_stmt a.items)) (past (view e) at) = λ i. past_block (block_tree (map view_stmt (same i))) (on i) in
    omega (arith, here, first_fits x e a b at n is fits)

-- nor has the second block
pub failed_fits : (x : Stmt) (e : Expr) (a b : Vec Stmt) (held failed : List Stmt) (at next last n : ℕ) → x ≡ IfElse e a b → held ≡ a.items → failed ≡ b.items
    → next ≡ past (view e) at → last ≡ past_block (block_tree (map view_stmt held)) next → past_stmt (view_stmt x) at ≤ n → past_block (block_tree (map view_stmt failed)) last ≤ n
failed_fits x e a b held failed at next last n is same same' on on' fits =
    let whole : past_stmt (view_stmt x) at ≡ past_block (block_tree (map view_stmt b.items)) (past_block (block_tree (map view_stmt a.items)) (past (view e) at)) = ap (λ (s : StmtTree). past_stmt s at) (ap view_stmt is ∙ view-IfElse e a b) in
    let first : last ≡ past_block (block_tree (map view_stmt a.items)) (past (view e) at) = on' ∙ (λ i. past_block (block_tree (map view_stmt (same i))) (on i)) in
    let second : past_block (block_tree (map view_stmt failed)) last ≡ past_block (block_tree (map view_stmt b.items)) (past_block (block_tree (map view_stmt a.items)) (past (view e) at)) = λ i. past_block (block_tree (map view_stmt (same' i))) (first i) in
    omega (arith, fits, whole, second)

as_long : {X : Type 0} (xs ys : List X) (n : ℕ) → take n xs ≡ ys → n ≡ length ys → n ≤ length xs
as_long xs ys n e h = omega (arith, length-take n xs, ap length e)

one_more_left : (o : Outside) (s t : ScopeView) (name : List ℕ) (k : NameKind) → o.names ≡ length t.names → length t.kinds ≡ length t.names → left o s ≡ t → left o (with_standing s name k) ≡ t
one_more_left o s t name k count kinds e =
    let names : take o.names (s.names ++ name ∷ []) ≡ take o.names s.names = take-append-le o.names s.names (name ∷ []) (as_long s.names t.names o.names (ap (λ (y : ScopeView). y.names) e) count) in
    let more : take o.names (s.kinds ++ k ∷ []) ≡ take o.names s.kinds = take-append-le o.names s.kinds (k ∷ []) (as_long s.kinds t.kinds o.names (ap (λ (y : ScopeView). y.kinds) e) (count ∙ sym kinds)) in
    (λ i. record s { actor = o.actor; names = names i; kinds = more i; bound = o.bound }) ∙ e

-- one name more is not among those that stood outside
pub still_left : (o : Outside) (s t : ScopeView) (x : StmtTree) → o.names ≡ length t.names → length t.kinds ≡ length t.names → left o s ≡ t → left o (scope_after s x) ≡ t
still_left o s t (tree.Do (tree.Let n v)) count kinds e = one_more_left o s t n kind.Number count kinds e
still_left o s t (tree.Do (tree.LetTask n m)) count kinds e = one_more_left o s t n kind.Task count kinds e
still_left o s t _ count kinds e = e
