-- A script is no larger than its tokens.
use Rattle.std.proofs.Common.{ℕ, ◌≤◌, List, [], ◌∷◌, ◌++◌, length, ap, arith, length-append}
use Rattle.script_tokens.specs.declared.mark.Mark.TheVariants as mark
use Rattle.script_tokens.specs.declared.keyword.Keyword.TheVariants as key
use Rattle.script_tokens.specs.Pieces.{TokenView, Key, Sign}
use Rattle.script_grammar.specs.declared.region.Region.{Region}
use Rattle.script_grammar.specs.Tree.{ActionTree, HeadTree, StmtTree, FieldTree, MethodTree, ActorTree, DeclTree, block_tree}
use Rattle.script_grammar.specs.Grammar.{Each, no_more, one_more, IsNext, Listed, none_listed, some_listed, SpellsAction, defines, defines_task, assigns, awaits, makes, adds, cancels, returns, throws, checks, yields, SpellsHead, tests, repeats, binds, groups, assumes, SpellsStmt, does, holds, chooses, SpellsBlock, braces, SpellsStmts, none, more, IsName, IsField, IsMethodDecl, IsActor, IsDecl, an_executor, a_local, an_actor, a_root, IsScript}
use Rattle.script_grammar.specs.Size.{stmt_size, block_size, method_size, methods_size, actor_size, decl_size, script_size}

-- values that take a token each are no more than the tokens
each_short : {A : Type 0} {Is : List TokenView → A → Type 0} {ts : List TokenView} {xs : List A} → ((us : List TokenView) (x : A) → Is us x → 1 ≤ length us) → Each Is ts xs → length xs ≤ length ts
each_short f no_more = omega arith
each_short f (one_more {ts = ts} {us = us} {x = x} {xs = xs} i e) = omega (arith, f ts x i, each_short f e, length-append ts us)

-- what follows a comma takes a token
next_takes : {A : Type 0} {Is : List TokenView → A → Type 0} (us : List TokenView) (x : A) → IsNext Is us x → 1 ≤ length us
next_takes us x n = omega (arith, ap length n.all)

listed_short : {A : Type 0} {Is : List TokenView → A → Type 0} {ts : List TokenView} {xs : List A} → ((us : List TokenView) (x : A) → Is us x → 1 ≤ length us) → Listed Is ts xs → length xs ≤ length ts
listed_short f none_listed = omega arith
listed_short f (some_listed {ts = ts} {us = us} {x = x} {xs = xs} i e) = omega (arith, f ts x i, each_short next_takes e, length-append ts us)

-- a statement without a block takes a token, and so does a head
action_takes : {limit : ℕ} {r : Region} {ts : List TokenView} {a : ActionTree} → SpellsAction limit r ts a → 1 ≤ length ts
action_takes (defines n v) = omega arith
action_takes (defines_task n may m) = omega arith
action_takes (assigns n v) = omega arith
action_takes (awaits may w) = omega arith
action_takes (makes {ts = ts} may m) = omega (arith, length-append ts (Sign mark.Semicolon ∷ []))
action_takes (adds may a) = omega arith
action_takes (cancels n may) = omega arith
action_takes (returns may e) = omega arith
action_takes (throws e) = omega arith
action_takes checks = omega arith
action_takes (yields may) = omega arith

head_takes : {limit : ℕ} {r inner : Region} {ts : List TokenView} {h : HeadTree} → SpellsHead limit r ts h inner → 1 ≤ length ts
head_takes (tests e) = omega arith
head_takes (repeats e) = omega arith
head_takes (binds n may e) = omega arith
head_takes (groups n may) = omega arith
head_takes (assumes n) = omega arith

-- statements and blocks are no larger than their tokens
mutual
  stmt_short : {limit : ℕ} {r : Region} {o : ℕ} {ts : List TokenView} {s : StmtTree} → SpellsStmt limit r o ts s → stmt_size s ≤ length ts
  stmt_short (does d) = action_takes d
  stmt_short (holds {ts = ts} {us = us} {ss = ss} h b) = omega (arith, head_takes h, block_short b, length-append ts us)
  stmt_short (chooses {ts = ts} {us = us} {vs = vs} {ss = ss} {rs = rs} e a b) =
      omega (arith, block_short a, block_short b, length-append ts (us ++ Key key.Else ∷ vs), length-append us (Key key.Else ∷ vs))

  block_short : {limit : ℕ} {r : Region} {o : ℕ} {ts : List TokenView} {ss : List StmtTree} → SpellsBlock limit r o ts ss → block_size (block_tree ss) ≤ length ts
  block_short (braces {ts = ts} s) = omega (arith, stmts_short s, length-append ts (Sign mark.CloseBrace ∷ []))

  stmts_short : {limit : ℕ} {r : Region} {o : ℕ} {ts : List TokenView} {ss : List StmtTree} → SpellsStmts limit r o ts ss → block_size (block_tree ss) ≤ length ts
  stmts_short none = omega arith
  stmts_short (more {ts = ts} {us = us} s ss) = omega (arith, stmt_short s, stmts_short ss, length-append ts us)

-- a parameter takes a token, and so does a field
name_takes : (ts : List TokenView) (n : List ℕ) → IsName ts n → 1 ≤ length ts
name_takes ts n e = omega (arith, ap length e)

field_takes : (ts : List TokenView) (f : FieldTree) → IsField ts f → 1 ≤ length ts
field_takes ts f h = omega (arith, ap length h.all)

-- methods, actors and declarations are no larger than their tokens
method_short : {limit : ℕ} {ts : List TokenView} {m : MethodTree} → IsMethodDecl limit ts m → method_size m ≤ length ts
method_short h = omega (arith, ap length h.all, length-append h.params (Sign mark.Close ∷ h.body), listed_short name_takes h.has_params, block_short h.has_body)

methods_short : {limit : ℕ} {ts : List TokenView} {ms : List MethodTree} → Each (IsMethodDecl limit) ts ms → methods_size ms ≤ length ts
methods_short no_more = omega arith
methods_short (one_more {ts = ts} {us = us} h e) = omega (arith, method_short h, methods_short e, length-append ts us)

actor_short : {limit : ℕ} {ts : List TokenView} {a : ActorTree} → IsActor limit ts a → actor_size a ≤ length ts
actor_short h =
    let end = Sign mark.CloseBrace ∷ [] in
    omega (arith, ap length h.all, each_short field_takes h.has_fields, methods_short h.has_methods, length-append h.on (Sign mark.OpenBrace ∷ (h.fields ++ (h.invariant ++ (h.methods ++ end)))), length-append h.fields (h.invariant ++ (h.methods ++ end)), length-append h.invariant (h.methods ++ end), length-append h.methods end)

decl_short : {limit : ℕ} {ts : List TokenView} {x : DeclTree} → IsDecl limit ts x → decl_size x ≤ length ts
decl_short (an_executor h) = omega (arith, ap length h.all)
decl_short (a_local h) = omega (arith, ap length h.all)
decl_short (an_actor h) = actor_short h
decl_short (a_root h) = omega (arith, ap length h.all)

pub script_short : {limit : ℕ} {ts : List TokenView} {xs : List DeclTree} → IsScript limit ts xs → script_size xs ≤ length ts
script_short no_more = omega arith
script_short (one_more {ts = ts} {us = us} h e) = omega (arith, decl_short h, script_short e, length-append ts us)
