-- Blocks, statement by statement.
use Rattle.script_compiler.proofs.Prelude.{◌≡◌, ℕ, suc, Option, None, ◌+◌, ◌<◌, List, length, map, sym, ap, ◌∙◌, get_or, drop, add-one, drop-cons, BlockTree, first_then, block_tree, view_stmt, Stmt, ScopeView, earlier, stmt_error, block_error, past_stmt, past_block, scope_after, Code, followed, followed_then, PlanView, stmt_code, block_code}
use Rattle.script_names.specs.declared.error.NameError.{NameError}

-- the statements that are left, at one of them
pub at_item : (block : List Stmt) (i : ℕ) (s : Stmt) → i < length block → s ≡ get_or block i s → block_tree (map view_stmt (drop i block)) ≡ first_then (view_stmt s) (block_tree (map view_stmt (drop (i + 1) block)))
at_item block i s h is = rw (add-one, drop-cons block i s) (ap (λ x. first_then (view_stmt x) (block_tree (map view_stmt (drop (suc i) block)))) (sym is))

-- the code of a block
abbrev pub code_in : PlanView → ScopeView → List Stmt → Code
code_in p s body = block_code p s (block_tree (map view_stmt body))

-- after one statement more, what is there and what is left are the same together
pub code_more : (p : PlanView) (s t : ScopeView) (block : List Stmt) (i : ℕ) (x : Stmt) (old new whole : Code) → i < length block → x ≡ get_or block i x
    → new ≡ followed old (stmt_code p s (view_stmt x)) → t ≡ scope_after s (view_stmt x)
    → followed old (code_in p s (drop i block)) ≡ whole → followed new (code_in p t (drop (i + 1) block)) ≡ whole
code_more p s t block i x old new whole h is more after before =
    let left = drop (i + 1) block in
    ap (λ (c : Code). followed c (code_in p t left)) more
    ∙ ap (λ (y : ScopeView). followed (followed old (stmt_code p s (view_stmt x))) (code_in p y left)) after
    ∙ followed_then old (stmt_code p s (view_stmt x)) (code_in p (scope_after s (view_stmt x)) left)
    ∙ ap (λ (b : BlockTree). followed old (block_code p s b)) (sym (at_item block i x h is))
    ∙ before

-- and so are their errors, where there is none so far
pub errors_more : (s t : ScopeView) (at on : ℕ) (block : List Stmt) (i : ℕ) (x : Stmt) (whole : Option NameError) → i < length block → x ≡ get_or block i x
    → stmt_error s at (view_stmt x) ≡ None → t ≡ scope_after s (view_stmt x) → on ≡ past_stmt (view_stmt x) at
    → block_error s at (block_tree (map view_stmt (drop i block))) ≡ whole → block_error t on (block_tree (map view_stmt (drop (i + 1) block))) ≡ whole
errors_more s t at on block i x whole h is none after past before =
    let left = block_tree (map view_stmt (drop (i + 1) block)) in
    (λ j. block_error (after j) (past j) left)
    ∙ sym (ap (λ (e : Option NameError). earlier e (block_error (scope_after s (view_stmt x)) (past_stmt (view_stmt x) at) left)) none)
    ∙ sym (ap (block_error s at) (at_item block i x h is))
    ∙ before

-- and the names up to the end
pub names_more : (at on : ℕ) (block : List Stmt) (i : ℕ) (x : Stmt) (whole : ℕ) → i < length block → x ≡ get_or block i x → on ≡ past_stmt (view_stmt x) at
    → past_block (block_tree (map view_stmt (drop i block))) at ≡ whole → past_block (block_tree (map view_stmt (drop (i + 1) block))) on ≡ whole
names_more at on block i x whole h is past before =
    ap (past_block (block_tree (map view_stmt (drop (i + 1) block)))) past ∙ sym (ap (λ (b : BlockTree). past_block b at) (at_item block i x h is)) ∙ before
