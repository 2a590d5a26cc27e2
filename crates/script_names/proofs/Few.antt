-- A script has no more names than tokens.
use Rattle.script_names.proofs.Prelude.{ℕ, ◌≤◌, ◌+◌, suc, Option, List, [], ◌∷◌, ◌++◌, length, ap, arith, length-append, ExprTree, CallTree, AwaitedTree, WaitTree, ValueTree, MakeTree, AddTree, ActionTree, HeadTree, StmtTree, FieldTree, MethodTree, ActorTree, RootTree, DeclTree, block_tree, past, past_all, past_if, past_call, past_awaited, past_wait, past_value, past_make, past_action, past_head, past_stmt, past_block, past_names, past_name_if, past_method, past_methods, past_fields, past_actor, past_decl, past_decls, names_in}
use Rattle.script_tokens.specs.declared.mark.Mark.TheVariants as mark
use Rattle.script_tokens.specs.declared.keyword.Keyword.TheVariants as key
use Rattle.script_tokens.specs.Pieces.{TokenView, Key, Sign}
use Rattle.script_grammar.specs.declared.region.Atoms.{Atoms}
use Rattle.script_grammar.specs.declared.region.Region.{Region}
use Rattle.script_grammar.specs.Grammar.{mark_of, SpellsExpr, number, name, local, own_priority, is_cancelled, parenthesis, negated, inverted, alone, chained, compared, IsExpression, Each, no_more, one_more, IsNext, Listed, none_listed, some_listed, IsCall, IsAwaited, a_call, a_task, a_next, IsElse, without_else, with_else, IsWait, IsMake, spawned, detached, IsAdd, IsValue, computed, awaited, SpellsAction, defines, defines_task, assigns, awaits, makes, adds, cancels, returns, throws, checks, yields, SpellsHead, tests, repeats, binds, groups, assumes, SpellsStmt, does, holds, chooses, SpellsBlock, braces, SpellsStmts, none, more, IsName, IsField, IsOn, on_its_own, on_shared, IsInvariant, no_invariant, an_invariant, IsMethodDecl, IsActor, IsRoot, IsDecl, an_executor, a_local, an_actor, a_root, IsScript}

-- expressions
expr_few : {atoms : Atoms} {o k : ℕ} {ts : List TokenView} {t : ExprTree} → SpellsExpr atoms o k ts t → (at : ℕ) → past t at ≤ at + length ts
expr_few (number n) at = omega arith
expr_few (name n) at = omega arith
expr_few (local n e) at = omega arith
expr_few (own_priority e) at = omega arith
expr_few (is_cancelled e) at = omega arith
expr_few (parenthesis {ts = ts} s) at = omega (arith, expr_few s at, length-append ts (Sign mark.Close ∷ []))
expr_few (negated s) at = omega (arith, expr_few s at)
expr_few (inverted s) at = omega (arith, expr_few s at)
expr_few (alone s) at = expr_few s at
expr_few (chained {ls = ls} {rs = rs} {a = a} op e n l r) at = omega (arith, expr_few l at, expr_few r (past a at), length-append ls (Sign (mark_of op) ∷ rs))
expr_few (compared {ls = ls} {rs = rs} {a = a} op e n l r) at = omega (arith, expr_few l at, expr_few r (past a at), length-append ls (Sign (mark_of op) ∷ rs))

-- lists of expressions
next_few : {atoms : Atoms} {limit opens : ℕ} {ts : List TokenView} {xs : List ExprTree} → Each (IsNext (IsExpression atoms limit opens)) ts xs → (at : ℕ) → past_all xs at ≤ at + length ts
next_few no_more at = omega arith
next_few (one_more {ts = ts} {us = us} {x = x} n e) at = omega (arith, expr_few n.is.spelled at, next_few e (past x at), ap length n.all, length-append ts us)

args_few : {atoms : Atoms} {limit opens : ℕ} {ts : List TokenView} {xs : List ExprTree} → Listed (IsExpression atoms limit opens) ts xs → (at : ℕ) → past_all xs at ≤ at + length ts
args_few none_listed at = omega arith
args_few (some_listed {ts = ts} {us = us} {x = x} i e) at = omega (arith, expr_few i.spelled at, next_few e (past x at), length-append ts us)

-- calls, waits and tasks that are made
call_few : {limit : ℕ} {ts : List TokenView} {c : CallTree} → IsCall limit ts c → (at : ℕ) → past_call c at ≤ at + length ts
call_few h at = omega (arith, args_few h.has_args (suc (suc at)), ap length h.all, length-append h.args (Sign mark.Close ∷ []))

awaited_few : {limit : ℕ} {ts : List TokenView} {w : AwaitedTree} → IsAwaited limit ts w → (at : ℕ) → past_awaited w at ≤ at + length ts
awaited_few (a_call c) at = call_few c at
awaited_few (a_task n) at = omega arith
awaited_few (a_next n) at = omega arith

else_few : {limit : ℕ} {ts : List TokenView} {t : Option ExprTree} → IsElse limit ts t → (at : ℕ) → past_if t at ≤ at + length ts
else_few without_else at = omega arith
else_few (with_else e) at = omega (arith, expr_few e.spelled at)

wait_few : {limit : ℕ} {ts : List TokenView} {w : WaitTree} → IsWait limit ts w → (at : ℕ) → past_wait w at ≤ at + length ts
wait_few {w = w} h at = omega (arith, awaited_few h.has_for at, else_few h.has_other (past_awaited w.for at), ap length h.all, length-append h.for h.other)

value_few : {limit : ℕ} {r : Region} {ts : List TokenView} {v : ValueTree} → IsValue limit r ts v → (at : ℕ) → past_value v at ≤ at + length ts
value_few (computed e) at = expr_few e.spelled at
value_few (awaited may w) at = omega (arith, wait_few w at)

make_few : {limit : ℕ} {ts : List TokenView} {m : MakeTree} → IsMake limit ts m → (at : ℕ) → past_make m at ≤ at + length ts
make_few (spawned {ts = ts} {us = us} c p) at = omega (arith, call_few c at, length-append ts us)
make_few (detached {ts = ts} {us = us} c p) at = omega (arith, call_few c at, length-append ts us)

add_few : {limit : ℕ} {ts : List TokenView} {a : AddTree} → IsAdd limit ts a → (at : ℕ) → past_call a.call (suc at) ≤ at + length ts
add_few h at = omega (arith, call_few h.has_call (suc at), ap length h.all, length-append h.unless (h.call ++ h.priority), length-append h.call h.priority)

-- statements and blocks
action_few : {limit : ℕ} {r : Region} {ts : List TokenView} {a : ActionTree} → SpellsAction limit r ts a → (at : ℕ) → past_action a at ≤ at + length ts
action_few (defines n {ts = ts} v) at = omega (arith, value_few v (suc at), length-append ts (Sign mark.Semicolon ∷ []))
action_few (defines_task n {ts = ts} may m) at = omega (arith, make_few m (suc at), length-append ts (Sign mark.Semicolon ∷ []))
action_few (assigns n {ts = ts} v) at = omega (arith, value_few v (suc at), length-append ts (Sign mark.Semicolon ∷ []))
action_few (awaits {ts = ts} may w) at = omega (arith, wait_few w at, length-append ts (Sign mark.Semicolon ∷ []))
action_few (makes {ts = ts} may m) at = omega (arith, make_few m at, length-append ts (Sign mark.Semicolon ∷ []))
action_few (adds {ts = ts} may a) at = omega (arith, add_few a at, length-append ts (Sign mark.Semicolon ∷ []))
action_few (cancels n may) at = omega arith
action_few (returns {ts = ts} may e) at = omega (arith, expr_few e.spelled at, length-append ts (Sign mark.Semicolon ∷ []))
action_few (throws {ts = ts} e) at = omega (arith, expr_few e.spelled at, length-append ts (Sign mark.Semicolon ∷ []))
action_few checks at = omega arith
action_few (yields may) at = omega arith

head_few : {limit : ℕ} {r inner : Region} {ts : List TokenView} {h : HeadTree} → SpellsHead limit r ts h inner → (at : ℕ) → past_head h at ≤ at + length ts
head_few (tests e) at = omega (arith, expr_few e.spelled at)
head_few (repeats e) at = omega (arith, expr_few e.spelled at)
head_few (binds n may e) at = omega (arith, expr_few e.spelled (suc at))
head_few (groups n may) at = omega arith
head_few (assumes n) at = omega arith

mutual
  stmt_few : {limit : ℕ} {r : Region} {o : ℕ} {ts : List TokenView} {s : StmtTree} → SpellsStmt limit r o ts s → (at : ℕ) → past_stmt s at ≤ at + length ts
  stmt_few (does d) at = action_few d at
  stmt_few (holds {ts = ts} {us = us} {h = h} {ss = ss} d b) at = omega (arith, head_few d at, block_few b (past_head h at), length-append ts us)
  stmt_few (chooses {ts = ts} {us = us} {vs = vs} {t = t} {ss = ss} {rs = rs} e a b) at =
      omega (arith, expr_few e.spelled at, block_few a (past t at), block_few b (past_block (block_tree ss) (past t at)), length-append ts (us ++ Key key.Else ∷ vs), length-append us (Key key.Else ∷ vs))

  block_few : {limit : ℕ} {r : Region} {o : ℕ} {ts : List TokenView} {ss : List StmtTree} → SpellsBlock limit r o ts ss → (at : ℕ) → past_block (block_tree ss) at ≤ at + length ts
  block_few (braces {ts = ts} s) at = omega (arith, stmts_few s at, length-append ts (Sign mark.CloseBrace ∷ []))

  stmts_few : {limit : ℕ} {r : Region} {o : ℕ} {ts : List TokenView} {ss : List StmtTree} → SpellsStmts limit r o ts ss → (at : ℕ) → past_block (block_tree ss) at ≤ at + length ts
  stmts_few none at = omega arith
  stmts_few (more {ts = ts} {us = us} {s = s} d ds) at = omega (arith, stmt_few d at, stmts_few ds (past_stmt s at), length-append ts us)

-- methods
next_names_few : {ts : List TokenView} {ns : List (List ℕ)} → Each (IsNext IsName) ts ns → (at : ℕ) → past_names ns at ≤ at + length ts
next_names_few no_more at = omega arith
next_names_few (one_more {ts = ts} {us = us} n e) at = omega (arith, next_names_few e (suc at), ap length n.all, length-append ts us)

params_few : {ts : List TokenView} {ns : List (List ℕ)} → Listed IsName ts ns → (at : ℕ) → past_names ns at ≤ at + length ts
params_few none_listed at = omega arith
params_few (some_listed {ts = ts} {us = us} n e) at = omega (arith, next_names_few e (suc at), ap length n, length-append ts us)

method_few : {limit : ℕ} {ts : List TokenView} {m : MethodTree} → IsMethodDecl limit ts m → (at : ℕ) → past_method m at ≤ at + length ts
method_few {m = m} h at = omega (arith, params_few h.has_params (suc at), block_few h.has_body (past_names m.params (suc at)), ap length h.all, length-append h.params (Sign mark.Close ∷ h.body))

methods_few : {limit : ℕ} {ts : List TokenView} {ms : List MethodTree} → Each (IsMethodDecl limit) ts ms → (at : ℕ) → past_methods ms at ≤ at + length ts
methods_few no_more at = omega arith
methods_few (one_more {ts = ts} {us = us} {x = m} h e) at = omega (arith, method_few h at, methods_few e (past_method m at), length-append ts us)

-- actors
fields_few : {ts : List TokenView} {fs : List FieldTree} → Each IsField ts fs → (at : ℕ) → past_fields fs at ≤ at + length ts
fields_few no_more at = omega arith
fields_few (one_more {ts = ts} {us = us} h e) at = omega (arith, fields_few e (suc at), ap length h.all, length-append ts us)

on_few : {ts : List TokenView} {n : Option (List ℕ)} → IsOn ts n → (at : ℕ) → past_name_if n at ≤ at + length ts
on_few on_its_own at = omega arith
on_few (on_shared n) at = omega arith

invariant_few : {limit : ℕ} {ts : List TokenView} {t : Option ExprTree} → IsInvariant limit ts t → (at : ℕ) → past_if t at ≤ at + length ts
invariant_few no_invariant at = omega arith
invariant_few (an_invariant {ts = ts} e) at = omega (arith, expr_few e.spelled at, length-append ts (Sign mark.Semicolon ∷ []))

actor_few : {limit : ℕ} {ts : List TokenView} {a : ActorTree} → IsActor limit ts a → (at : ℕ) → past_actor a at ≤ at + length ts
actor_few {a = a} h at =
    let fields = past_name_if a.executor (suc at) in
    let invariant = past_fields a.fields fields in
    let end = Sign mark.CloseBrace ∷ [] in
    omega (
      arith,
      on_few h.has_executor (suc at),
      fields_few h.has_fields fields,
      invariant_few h.has_invariant invariant,
      methods_few h.has_methods (past_if a.invariant invariant),
      ap length h.all,
      length-append h.on (Sign mark.OpenBrace ∷ (h.fields ++ (h.invariant ++ (h.methods ++ end)))),
      length-append h.fields (h.invariant ++ (h.methods ++ end)),
      length-append h.invariant (h.methods ++ end),
      length-append h.methods end,
    )

-- declarations and scripts
root_few : {ts : List TokenView} {r : RootTree} → IsRoot ts r → (at : ℕ) → suc (suc (suc at)) ≤ at + length ts
root_few h at = omega (arith, ap length h.all, ap length h.has_start.all, length-append h.start (h.at ++ Sign mark.Semicolon ∷ []))

decl_few : {limit : ℕ} {ts : List TokenView} {x : DeclTree} → IsDecl limit ts x → (at : ℕ) → past_decl x at ≤ at + length ts
decl_few (an_executor h) at = omega (arith, ap length h.all)
decl_few (a_local h) at = omega (arith, ap length h.all)
decl_few (an_actor h) at = actor_few h at
decl_few (a_root h) at = root_few h at

decls_few : {limit : ℕ} {ts : List TokenView} {xs : List DeclTree} → IsScript limit ts xs → (at : ℕ) → past_decls xs at ≤ at + length ts
decls_few no_more at = omega arith
decls_few (one_more {ts = ts} {us = us} {x = x} h e) at = omega (arith, decl_few h at, decls_few e (past_decl x at), length-append ts us)

pub names_few : {limit : ℕ} {ts : List TokenView} {xs : List DeclTree} → IsScript limit ts xs → names_in xs ≤ length ts
names_few s = omega (arith, decls_few s 0)
