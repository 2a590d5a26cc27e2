-- What is spelled within a limit is spelled within a greater one.
use Rattle.script_parser.proofs.Prelude.{ℕ, zero, suc, ◌-◌, ◌≤◌, List, Option, arith, TokenView, Atoms, Every, Plain, Region, ExprTree, CallTree, AwaitedTree, WaitTree, ValueTree, MakeTree, AddTree, ActionTree, HeadTree, StmtTree, MethodTree, ActorTree, DeclTree, SpellsExpr, number, name, local, own_priority, is_cancelled, parenthesis, negated, inverted, alone, chained, compared, IsExpression, Each, no_more, one_more, IsNext, Listed, none_listed, some_listed, IsCall, IsAwaited, a_call, a_task, a_next, IsElse, without_else, with_else, IsWait, IsMake, spawned, detached, IsAdd, IsValue, computed, awaited, SpellsAction, defines, defines_task, assigns, awaits, makes, adds, cancels, returns, throws, checks, yields, SpellsHead, tests, repeats, binds, groups, assumes, SpellsStmt, SpellsBlock, SpellsStmts, does, holds, chooses, braces, none, more, IsInvariant, no_invariant, an_invariant, IsMethodDecl, IsActor, IsDecl, an_executor, a_local, an_actor, a_root, IsScript}

spelled_more : {atoms : Atoms} {m : ℕ} {k : ℕ} {ts : List TokenView} {t : ExprTree} (n : ℕ) → SpellsExpr atoms m k ts t → m ≤ n → SpellsExpr atoms n k ts t
spelled_more n (number v) le = number v
spelled_more n (name v) le = name v
spelled_more n (local v may) le = local v may
spelled_more n (own_priority may) le = own_priority may
spelled_more n (is_cancelled may) le = is_cancelled may
spelled_more zero (parenthesis {o} {ts} {t} d) le = absurd (omega arith)
spelled_more (suc n) (parenthesis {o} {ts} {t} d) le = parenthesis (spelled_more n d (omega arith))
spelled_more n (negated d) le = negated (spelled_more n d le)
spelled_more n (inverted d) le = inverted (spelled_more n d le)
spelled_more n (alone d) le = alone (spelled_more n d le)
spelled_more n (chained q e ne a b) le = chained q e ne (spelled_more n a le) (spelled_more n b le)
spelled_more n (compared q e three a b) le = compared q e three (spelled_more n a le) (spelled_more n b le)

each_more : {A : Type 0} (Is Are : List TokenView → A → Type 0) → ((ts : List TokenView) (x : A) → Is ts x → Are ts x) → {ts : List TokenView} {xs : List A} → Each Is ts xs → Each Are ts xs
each_more Is Are f no_more = no_more
each_more Is Are f (one_more {ts} {us} {x} {xs} d ds) = one_more (f ts x d) (each_more Is Are f ds)

listed_more : {A : Type 0} (Is Are : List TokenView → A → Type 0) → ((ts : List TokenView) (x : A) → Is ts x → Are ts x) → {ts : List TokenView} {xs : List A} → Listed Is ts xs → Listed Are ts xs
listed_more Is Are f none_listed = none_listed
listed_more Is Are f (some_listed {ts} {us} {x} {xs} d ds) = some_listed (f ts x d) (each_more (IsNext Is) (IsNext Are) (λ vs y e. record { item = e.item; is = f e.item y e.is; all = e.all }) ds)

module _ (m n : ℕ) (le : m ≤ n) where
  expression_more : (atoms : Atoms) (o p : ℕ) → o ≤ p → (ts : List TokenView) (t : ExprTree) → IsExpression atoms m o ts t → IsExpression atoms n p ts t
  expression_more atoms o p lp ts t d = record { spelled = spelled_more p d.spelled lp; low = omega (arith, d.low) }

  call_more : (ts : List TokenView) (c : CallTree) → IsCall m ts c → IsCall n ts c
  call_more ts c d = record { args = d.args; has_args = listed_more (IsExpression Every m (m - 1)) (IsExpression Every n (n - 1)) (expression_more Every (m - 1) (n - 1) (omega arith)) d.has_args; all = d.all }

  awaited_more : (ts : List TokenView) (a : AwaitedTree) → IsAwaited m ts a → IsAwaited n ts a
  awaited_more _ a (a_call {ts} {c} d) = a_call (call_more ts c d)
  awaited_more _ a (a_task x) = a_task x
  awaited_more _ a (a_next x) = a_next x

  else_more : (ts : List TokenView) (o : Option ExprTree) → IsElse m ts o → IsElse n ts o
  else_more ts o without_else = without_else
  else_more _ o (with_else {ts} {t} d) = with_else (expression_more Every m n le ts t d)

  wait_more : (ts : List TokenView) (w : WaitTree) → IsWait m ts w → IsWait n ts w
  wait_more ts w d = record { for = d.for; other = d.other; has_for = awaited_more d.for w.for d.has_for; has_other = else_more d.other w.other d.has_other; all = d.all }

  make_more : (ts : List TokenView) (x : MakeTree) → IsMake m ts x → IsMake n ts x
  make_more _ x (spawned {ts} {us} {c} {p} d g) = spawned (call_more ts c d) g
  make_more _ x (detached {ts} {us} {c} {p} d g) = detached (call_more ts c d) g

  add_more : (ts : List TokenView) (a : AddTree) → IsAdd m ts a → IsAdd n ts a
  add_more ts a d = record { unless = d.unless; call = d.call; priority = d.priority; has_unless = d.has_unless; has_call = call_more d.call a.call d.has_call; has_priority = d.has_priority; all = d.all }

  value_more : (r : Region) (ts : List TokenView) (v : ValueTree) → IsValue m r ts v → IsValue n r ts v
  value_more r _ v (computed {ts} {t} d) = computed (expression_more Every m n le ts t d)
  value_more r _ v (awaited {ts} {w} may d) = awaited may (wait_more ts w d)

  action_more : {r : Region} {ts : List TokenView} {a : ActionTree} → SpellsAction m r ts a → SpellsAction n r ts a
  action_more {r} (defines x {ts} {v} d) = defines x (value_more r ts v d)
  action_more (defines_task x {ts} {m = k} may d) = defines_task x may (make_more ts k d)
  action_more {r} (assigns x {ts} {v} d) = assigns x (value_more r ts v d)
  action_more (awaits {ts} {w} may d) = awaits may (wait_more ts w d)
  action_more (makes {ts} {m = k} may d) = makes may (make_more ts k d)
  action_more (adds {ts} {a} may d) = adds may (add_more ts a d)
  action_more (cancels x may) = cancels x may
  action_more (returns {ts} {t} may d) = returns may (expression_more Every m n le ts t d)
  action_more (throws {ts} {t} d) = throws (expression_more Every m n le ts t d)
  action_more checks = checks
  action_more (yields may) = yields may

  head_more : {r inner : Region} {ts : List TokenView} {h : HeadTree} → SpellsHead m r ts h inner → SpellsHead n r ts h inner
  head_more (tests {ts} {t} d) = tests (expression_more Every m n le ts t d)
  head_more (repeats {ts} {t} d) = repeats (expression_more Every m n le ts t d)
  head_more (binds x {ts} {t} may d) = binds x may (expression_more Every m n le ts t d)
  head_more (groups x may) = groups x may
  head_more (assumes x) = assumes x

  mutual
    stmt_more : {r : Region} {o : ℕ} {ts : List TokenView} {s : StmtTree} (p : ℕ) → SpellsStmt m r o ts s → o ≤ p → SpellsStmt n r p ts s
    stmt_more p (does d) lp = does (action_more d)
    stmt_more p (holds d b) lp = holds (head_more d) (block_more p b lp)
    stmt_more p (chooses {r} {o} {ts} {us} {vs} {t} d b c) lp = chooses (expression_more Every m n le ts t d) (block_more p b lp) (block_more p c lp)

    block_more : {r : Region} {o : ℕ} {ts : List TokenView} {ss : List StmtTree} (p : ℕ) → SpellsBlock m r o ts ss → o ≤ p → SpellsBlock n r p ts ss
    block_more zero (braces {r} {o} d) lp = absurd (omega arith)
    block_more (suc p) (braces {r} {o} d) lp = braces (stmts_more p d (omega arith))

    stmts_more : {r : Region} {o : ℕ} {ts : List TokenView} {ss : List StmtTree} (p : ℕ) → SpellsStmts m r o ts ss → o ≤ p → SpellsStmts n r p ts ss
    stmts_more p none lp = none
    stmts_more p (more d ds) lp = more (stmt_more p d lp) (stmts_more p ds lp)

  invariant_more : (ts : List TokenView) (o : Option ExprTree) → IsInvariant m ts o → IsInvariant n ts o
  invariant_more ts o no_invariant = no_invariant
  invariant_more _ o (an_invariant {ts} {t} d) = an_invariant (expression_more Plain m n le ts t d)

  method_more : (ts : List TokenView) (x : MethodTree) → IsMethodDecl m ts x → IsMethodDecl n ts x
  method_more ts x d = record { params = d.params; body = d.body; has_params = d.has_params; has_body = block_more n d.has_body le; all = d.all }

  actor_more : (ts : List TokenView) (x : ActorTree) → IsActor m ts x → IsActor n ts x
  actor_more ts x d = record { on = d.on; fields = d.fields; invariant = d.invariant; methods = d.methods; has_executor = d.has_executor; has_fields = d.has_fields; has_invariant = invariant_more d.invariant x.invariant d.has_invariant; has_methods = each_more (IsMethodDecl m) (IsMethodDecl n) method_more d.has_methods; all = d.all }

  decl_more : (ts : List TokenView) (x : DeclTree) → IsDecl m ts x → IsDecl n ts x
  decl_more _ x (an_executor d) = an_executor d
  decl_more _ x (a_local d) = a_local d
  decl_more _ x (an_actor {ts} {a} d) = an_actor (actor_more ts a d)
  decl_more _ x (a_root d) = a_root d

  pub script_more : (ts : List TokenView) (xs : List DeclTree) → IsScript m ts xs → IsScript n ts xs
  script_more ts xs d = each_more (IsDecl m) (IsDecl n) decl_more d
