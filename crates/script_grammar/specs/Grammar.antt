-- The grammar: which tokens spell which tree. One limit bounds the open blocks, the open parentheses and the height of
-- an expression. It is read from IsScript, at the end, upwards. (Own.)
use Rattle.std.specs.Prelude.{◌≡◌, ◌≢◌, ◌≤◌, ◌-◌, ℕ, ℤ, negsuc, neg_ℤ, zero, suc, Bool, true, false, List, [], ◌∷◌, ◌++◌, Option, Some, None}
use Rattle.swift_types.specs.declared.operator.Operator.{Operator}
use Rattle.swift_types.specs.declared.operator.Operator.TheVariants as op
use Rattle.swift_types.specs.declared.priority.Priority.{Priority}
use Rattle.swift_types.specs.declared.priority.Priority.TheVariants.{Background, Low, Medium, High}
use Rattle.script_tokens.specs.declared.mark.Mark.{Mark}
use Rattle.script_tokens.specs.declared.mark.Mark.TheVariants as mark
use Rattle.script_tokens.specs.declared.keyword.Keyword.{Keyword}
use Rattle.script_tokens.specs.declared.keyword.Keyword.TheVariants as key
use Rattle.script_tokens.specs.Pieces.{TokenView, Num, Name, Key, Sign}
use Rattle.script_grammar.specs.declared.region.Atoms.{Atoms}
use Rattle.script_grammar.specs.declared.region.Atoms.TheVariants.{Every, Plain}
use Rattle.script_grammar.specs.declared.region.Region.{Region}
use Rattle.script_grammar.specs.declared.region.Region.TheVariants as region
use Rattle.swift_types.specs.declared.executor_kind.ExecutorKind.{ExecutorKind}
use Rattle.swift_types.specs.declared.executor_kind.ExecutorKind.TheVariants as kind
use Rattle.script_grammar.specs.Tree.{ExprTree, Number, Named, Local, OwnPriority, IsCancelled, Negated, Inverted, Both, height_of, CallTree, AwaitedTree, Called, TaskOf, NextOf, WaitTree, ValueTree, Computed, Waited, MakeTree, Spawned, Detached, AddTree, ActionTree, Let, LetTask, Assign, Await, Makes, Adds, Cancel, Return, Throw, Check, Yield, HeadTree, If, While, Bind, Group, Assume, StmtTree, Do, Headed, IfElse, block_tree, ExecutorTree, LocalTree, FieldTree, MethodTree, ActorTree, RootTree, DeclTree, Executes, Binds, Acts, Roots}

-- the mark of an operator between two operands
abbrev pub mark_of : Operator → Mark
mark_of op.Or = mark.Or
mark_of op.And = mark.And
mark_of op.Equal = mark.Equal
mark_of op.Unequal = mark.Unequal
mark_of op.Less = mark.Less
mark_of op.AtMost = mark.AtMost
mark_of op.Greater = mark.Greater
mark_of op.AtLeast = mark.AtLeast
mark_of op.Plus = mark.Plus
mark_of op.Minus = mark.Minus
mark_of op.Times = mark.Times

-- how tightly an operator binds: 1 is the tightest
abbrev pub precedence_of : Operator → ℕ
precedence_of op.Or = 5
precedence_of op.And = 4
precedence_of op.Equal = 3
precedence_of op.Unequal = 3
precedence_of op.Less = 3
precedence_of op.AtMost = 3
precedence_of op.Greater = 3
precedence_of op.AtLeast = 3
precedence_of op.Plus = 2
precedence_of op.Minus = 2
precedence_of op.Times = 1

-- whether an expression may have more atoms than numbers, names and parentheses
abbrev pub has_every_atom : Atoms → Bool
has_every_atom Every = true
has_every_atom Plain = false

-- Spells atoms opens level tokens tree: the tokens spell the tree, with at most `opens` parentheses open at once.
-- Level 0 is an atom after prefixes; level n + 1 is operands of level n between operators of precedence n + 1.
pub data SpellsExpr (atoms : Atoms) : ℕ → ℕ → List TokenView → ExprTree → Type 0 where
  number : {o : ℕ} (n : _) → SpellsExpr atoms o zero (Num n ∷ []) (Number n)
  name : {o : ℕ} (n : List ℕ) → SpellsExpr atoms o zero (Name n ∷ []) (Named n)
  local : {o : ℕ} (n : List ℕ) → has_every_atom atoms ≡ true → SpellsExpr atoms o zero (Sign mark.At ∷ Name n ∷ []) (Local n)
  own_priority : {o : ℕ} → has_every_atom atoms ≡ true → SpellsExpr atoms o zero (Key key.Priority ∷ []) OwnPriority
  is_cancelled : {o : ℕ} → has_every_atom atoms ≡ true → SpellsExpr atoms o zero (Key key.Cancelled ∷ []) IsCancelled
  parenthesis : {o : ℕ} {ts : List TokenView} {t : ExprTree} → SpellsExpr atoms o 5 ts t → SpellsExpr atoms (suc o) zero (Sign mark.Open ∷ (ts ++ Sign mark.Close ∷ [])) t
  negated : {o : ℕ} {ts : List TokenView} {t : ExprTree} → SpellsExpr atoms o zero ts t → SpellsExpr atoms o zero (Sign mark.Minus ∷ ts) (Negated t)
  inverted : {o : ℕ} {ts : List TokenView} {t : ExprTree} → SpellsExpr atoms o zero ts t → SpellsExpr atoms o zero (Sign mark.Bang ∷ ts) (Inverted t)
  -- One operand alone is an expression of the next level.
  alone : {o k : ℕ} {ts : List TokenView} {t : ExprTree} → SpellsExpr atoms o k ts t → SpellsExpr atoms o (suc k) ts t
  -- Repeated operators group to the left, and are no comparisons.
  chained : {o k : ℕ} {ls rs : List TokenView} {a b : ExprTree} (op : Operator) → suc k ≡ precedence_of op → suc k ≢ 3 → SpellsExpr atoms o (suc k) ls a → SpellsExpr atoms o k rs b → SpellsExpr atoms o (suc k) (ls ++ Sign (mark_of op) ∷ rs) (Both op a b)
  -- A comparison has two operands, neither of which is a comparison outside a parenthesis.
  compared : {o k : ℕ} {ls rs : List TokenView} {a b : ExprTree} (op : Operator) → suc k ≡ precedence_of op → suc k ≡ 3 → SpellsExpr atoms o k ls a → SpellsExpr atoms o k rs b → SpellsExpr atoms o (suc k) (ls ++ Sign (mark_of op) ∷ rs) (Both op a b)

-- Tokens are an expression: they spell a tree no higher than `limit`, with at most `opens` parentheses open at once.
pub record IsExpression (atoms : Atoms) (limit opens : ℕ) (tokens : List TokenView) (tree : ExprTree) : Type 0 where
  pub spelled : SpellsExpr atoms opens 5 tokens tree
  pub low : height_of tree ≤ limit

-- Each Is tokens values: the tokens are those of the values, one after the other.
pub data Each {A : Type 0} (Is : List TokenView → A → Type 0) : List TokenView → List A → Type 0 where
  no_more : Each Is [] []
  one_more : {ts us : List TokenView} {x : A} {xs : List A} → Is ts x → Each Is us xs → Each Is (ts ++ us) (x ∷ xs)

-- Tokens are a comma and a value after it.
pub record IsNext {A : Type 0} (Is : List TokenView → A → Type 0) (ts : List TokenView) (x : A) : Type 0 where
  pub item : List TokenView
  pub is : Is item x
  pub all : ts ≡ Sign mark.Comma ∷ item

-- Listed Is tokens values: the tokens are those of the values, with a comma between each two.
pub data Listed {A : Type 0} (Is : List TokenView → A → Type 0) : List TokenView → List A → Type 0 where
  none_listed : Listed Is [] []
  some_listed : {ts us : List TokenView} {x : A} {xs : List A} → Is ts x → Each (IsNext Is) us xs → Listed Is (ts ++ us) (x ∷ xs)

-- Tokens are a call: `actor.method(..)`, whose parenthesis is open around each of its arguments.
pub record IsCall (limit : ℕ) (ts : List TokenView) (c : CallTree) : Type 0 where
  pub args : List TokenView
  pub has_args : Listed (IsExpression Every limit (limit - 1)) args c.args
  pub all : ts ≡ Name c.actor ∷ Sign mark.Dot ∷ Name c.method ∷ Sign mark.Open ∷ (args ++ Sign mark.Close ∷ [])

-- Tokens are what can be waited for: a call, `task name` or `next name`.
pub data IsAwaited (limit : ℕ) : List TokenView → AwaitedTree → Type 0 where
  a_call : {ts : List TokenView} {c : CallTree} → IsCall limit ts c → IsAwaited limit ts (Called c)
  a_task : (n : List ℕ) → IsAwaited limit (Key key.Task ∷ Name n ∷ []) (TaskOf n)
  a_next : (n : List ℕ) → IsAwaited limit (Key key.Next ∷ Name n ∷ []) (NextOf n)

-- Tokens are an `else` with its value, or there are none.
pub data IsElse (limit : ℕ) : List TokenView → Option ExprTree → Type 0 where
  without_else : IsElse limit [] None
  with_else : {ts : List TokenView} {t : ExprTree} → IsExpression Every limit limit ts t → IsElse limit (Key key.Else ∷ ts) (Some t)

-- Tokens are what is waited for, and perhaps an `else`.
pub record IsWait (limit : ℕ) (ts : List TokenView) (w : WaitTree) : Type 0 where
  pub for : List TokenView
  pub other : List TokenView
  pub has_for : IsAwaited limit for w.for
  pub has_other : IsElse limit other w.other
  pub all : ts ≡ for ++ other

-- the priority that a keyword names, if it names one
abbrev pub priority_of : Keyword → Option Priority
priority_of key.Background = Some Background
priority_of key.Low = Some Low
priority_of key.Medium = Some Medium
priority_of key.High = Some High
priority_of _ = None

-- Tokens are `at` and a priority, or there are none.
pub data IsPriorityGiven : List TokenView → Option Priority → Type 0 where
  not_given : IsPriorityGiven [] None
  given : (k : Keyword) (p : Priority) → priority_of k ≡ Some p → IsPriorityGiven (Key key.At ∷ Key k ∷ []) (Some p)

-- the priority that is given, and medium where none is
abbrev pub or_medium : Option Priority → Priority
or_medium None = Medium
or_medium (Some p) = p

-- Tokens are `spawn` or `detach`, a call, and perhaps a priority. A detached task without one is medium.
pub data IsMake (limit : ℕ) : List TokenView → MakeTree → Type 0 where
  spawned : {ts us : List TokenView} {c : CallTree} {p : Option Priority} → IsCall limit ts c → IsPriorityGiven us p → IsMake limit (Key key.Spawn ∷ (ts ++ us)) (Spawned c p)
  detached : {ts us : List TokenView} {c : CallTree} {p : Option Priority} → IsCall limit ts c → IsPriorityGiven us p → IsMake limit (Key key.Detach ∷ (ts ++ us)) (Detached c (or_medium p))

-- Tokens are `unless`, or there are none.
pub data IsUnless : List TokenView → Bool → Type 0 where
  always : IsUnless [] false
  unless : IsUnless (Key key.Unless ∷ []) true

-- Tokens are a child of a group after its keyword: the group, perhaps `unless`, a call, and perhaps a priority.
pub record IsAdd (limit : ℕ) (ts : List TokenView) (a : AddTree) : Type 0 where
  pub unless : List TokenView
  pub call : List TokenView
  pub priority : List TokenView
  pub has_unless : IsUnless unless a.unless
  pub has_call : IsCall limit call a.call
  pub has_priority : IsPriorityGiven priority a.priority
  pub all : ts ≡ Name a.group ∷ (unless ++ (call ++ priority))

-- whether a statement may wait there, make tasks or groups, cancel, or bind
abbrev pub may_act : Region → Bool
may_act region.Method = true
may_act region.Group = true
may_act region.Assume = false

-- whether a `return` may stand there
abbrev pub may_return : Region → Bool
may_return region.Method = true
may_return region.Group = false
may_return region.Assume = false

-- Tokens are an expression, or `await` and what is waited for.
pub data IsValue (limit : ℕ) (r : Region) : List TokenView → ValueTree → Type 0 where
  computed : {ts : List TokenView} {t : ExprTree} → IsExpression Every limit limit ts t → IsValue limit r ts (Computed t)
  awaited : {ts : List TokenView} {w : WaitTree} → may_act r ≡ true → IsWait limit ts w → IsValue limit r (Key key.Await ∷ ts) (Waited w)

-- Statements without a block, by their forms.
pub data SpellsAction (limit : ℕ) (r : Region) : List TokenView → ActionTree → Type 0 where
  defines : (n : List ℕ) {ts : List TokenView} {v : ValueTree} → IsValue limit r ts v → SpellsAction limit r (Key key.Let ∷ Name n ∷ Sign mark.Assign ∷ (ts ++ Sign mark.Semicolon ∷ [])) (Let n v)
  defines_task : (n : List ℕ) {ts : List TokenView} {m : MakeTree} → may_act r ≡ true → IsMake limit ts m → SpellsAction limit r (Key key.Let ∷ Name n ∷ Sign mark.Assign ∷ (ts ++ Sign mark.Semicolon ∷ [])) (LetTask n m)
  assigns : (n : List ℕ) {ts : List TokenView} {v : ValueTree} → IsValue limit r ts v → SpellsAction limit r (Name n ∷ Sign mark.Assign ∷ (ts ++ Sign mark.Semicolon ∷ [])) (Assign n v)
  awaits : {ts : List TokenView} {w : WaitTree} → may_act r ≡ true → IsWait limit ts w → SpellsAction limit r (Key key.Await ∷ (ts ++ Sign mark.Semicolon ∷ [])) (Await w)
  makes : {ts : List TokenView} {m : MakeTree} → may_act r ≡ true → IsMake limit ts m → SpellsAction limit r (ts ++ Sign mark.Semicolon ∷ []) (Makes m)
  adds : {ts : List TokenView} {a : AddTree} → may_act r ≡ true → IsAdd limit ts a → SpellsAction limit r (Key key.Add ∷ (ts ++ Sign mark.Semicolon ∷ [])) (Adds a)
  cancels : (n : List ℕ) → may_act r ≡ true → SpellsAction limit r (Key key.Cancel ∷ Name n ∷ Sign mark.Semicolon ∷ []) (Cancel n)
  returns : {ts : List TokenView} {t : ExprTree} → may_return r ≡ true → IsExpression Every limit limit ts t → SpellsAction limit r (Key key.Return ∷ (ts ++ Sign mark.Semicolon ∷ [])) (Return t)
  throws : {ts : List TokenView} {t : ExprTree} → IsExpression Every limit limit ts t → SpellsAction limit r (Key key.Throw ∷ (ts ++ Sign mark.Semicolon ∷ [])) (Throw t)
  checks : SpellsAction limit r (Key key.Check ∷ Sign mark.Semicolon ∷ []) Check
  yields : may_act r ≡ true → SpellsAction limit r (Key key.Yield ∷ Sign mark.Semicolon ∷ []) Yield

-- What stands in front of a block, and the region that the block is.
pub data SpellsHead (limit : ℕ) (r : Region) : List TokenView → HeadTree → Region → Type 0 where
  tests : {ts : List TokenView} {t : ExprTree} → IsExpression Every limit limit ts t → SpellsHead limit r (Key key.If ∷ ts) (If t) r
  repeats : {ts : List TokenView} {t : ExprTree} → IsExpression Every limit limit ts t → SpellsHead limit r (Key key.While ∷ ts) (While t) r
  binds : (n : List ℕ) {ts : List TokenView} {t : ExprTree} → may_act r ≡ true → IsExpression Every limit limit ts t → SpellsHead limit r (Key key.Bind ∷ Name n ∷ Sign mark.Assign ∷ ts) (Bind n t) r
  groups : (n : List ℕ) → may_act r ≡ true → SpellsHead limit r (Key key.Group ∷ Name n ∷ []) (Group n) region.Group
  assumes : (n : List ℕ) → SpellsHead limit r (Key key.Assume ∷ Name n ∷ []) (Assume n) region.Assume

-- Statements of a region, with at most as many further blocks open at once as the number after the region says.
mutual
  pub data SpellsStmt (limit : ℕ) : Region → ℕ → List TokenView → StmtTree → Type 0 where
    does : {r : Region} {o : ℕ} {ts : List TokenView} {a : ActionTree} → SpellsAction limit r ts a → SpellsStmt limit r o ts (Do a)
    holds : {r inner : Region} {o : ℕ} {ts us : List TokenView} {h : HeadTree} {ss : List StmtTree} → SpellsHead limit r ts h inner → SpellsBlock limit inner o us ss → SpellsStmt limit r o (ts ++ us) (Headed h (block_tree ss))
    chooses : {r : Region} {o : ℕ} {ts us vs : List TokenView} {t : ExprTree} {ss rs : List StmtTree} → IsExpression Every limit limit ts t → SpellsBlock limit r o us ss → SpellsBlock limit r o vs rs → SpellsStmt limit r o (Key key.If ∷ (ts ++ (us ++ Key key.Else ∷ vs))) (IfElse t (block_tree ss) (block_tree rs))

  -- Tokens are a block: statements in braces, which are one more open block.
  pub data SpellsBlock (limit : ℕ) : Region → ℕ → List TokenView → List StmtTree → Type 0 where
    braces : {r : Region} {o : ℕ} {ts : List TokenView} {ss : List StmtTree} → SpellsStmts limit r o ts ss → SpellsBlock limit r (suc o) (Sign mark.OpenBrace ∷ (ts ++ Sign mark.CloseBrace ∷ [])) ss

  -- Tokens are those of the statements, one after the other.
  pub data SpellsStmts (limit : ℕ) : Region → ℕ → List TokenView → List StmtTree → Type 0 where
    none : {r : Region} {o : ℕ} → SpellsStmts limit r o [] []
    more : {r : Region} {o : ℕ} {ts us : List TokenView} {s : StmtTree} {ss : List StmtTree} → SpellsStmt limit r o ts s → SpellsStmts limit r o us ss → SpellsStmts limit r o (ts ++ us) (s ∷ ss)

-- the least number of 64 bits, whose opposite is none
abbrev pub least : ℤ
least = negsuc 9223372036854775807

-- Tokens are a whole number, perhaps after a minus. The opposite of the least one does not fit.
pub data IsInt : List TokenView → ℤ → Type 0 where
  plain : (v : ℤ) → IsInt (Num v ∷ []) v
  opposite : (v : ℤ) → v ≢ least → IsInt (Sign mark.Minus ∷ Num v ∷ []) (neg_ℤ v)

-- Tokens are one name.
abbrev pub IsName : List TokenView → List ℕ → Type 0
IsName ts n = ts ≡ Name n ∷ []

-- Tokens are a kind of executors: `priority`, `fifo` or `pinned number`.
pub data IsKind : List TokenView → ExecutorKind → Type 0 where
  by_priority : IsKind (Key key.Priority ∷ []) kind.Priority
  by_age : IsKind (Key key.Fifo ∷ []) kind.Fifo
  by_worker : (v : ℤ) → IsKind (Key key.Pinned ∷ Num v ∷ []) (kind.Pinned v)

-- Tokens are an executor: `executor name kind;`.
pub record IsExecutorDecl (ts : List TokenView) (x : ExecutorTree) : Type 0 where
  pub kind : List TokenView
  pub has_kind : IsKind kind x.kind
  pub all : ts ≡ Key key.Executor ∷ Name x.name ∷ (kind ++ Sign mark.Semicolon ∷ [])

-- Tokens are a task local: `local name = default;`.
pub record IsLocal (ts : List TokenView) (l : LocalTree) : Type 0 where
  pub default : List TokenView
  pub has_default : IsInt default l.default
  pub all : ts ≡ Key key.Local ∷ Name l.name ∷ Sign mark.Assign ∷ (default ++ Sign mark.Semicolon ∷ [])

-- Tokens are a field: `var name = start;`.
pub record IsField (ts : List TokenView) (f : FieldTree) : Type 0 where
  pub start : List TokenView
  pub has_start : IsInt start f.start
  pub all : ts ≡ Key key.Var ∷ Name f.name ∷ Sign mark.Assign ∷ (start ++ Sign mark.Semicolon ∷ [])

-- Tokens are `on` and an executor's name, or there are none.
pub data IsOn : List TokenView → Option (List ℕ) → Type 0 where
  on_its_own : IsOn [] None
  on_shared : (n : List ℕ) → IsOn (Key key.On ∷ Name n ∷ []) (Some n)

-- Tokens are `invariant test;`, or there are none. An invariant has plain atoms.
pub data IsInvariant (limit : ℕ) : List TokenView → Option ExprTree → Type 0 where
  no_invariant : IsInvariant limit [] None
  an_invariant : {ts : List TokenView} {t : ExprTree} → IsExpression Plain limit limit ts t → IsInvariant limit (Key key.Invariant ∷ (ts ++ Sign mark.Semicolon ∷ [])) (Some t)

-- Tokens are a method: `func name(..)` and its block, which is the first open one.
pub record IsMethodDecl (limit : ℕ) (ts : List TokenView) (m : MethodTree) : Type 0 where
  pub params : List TokenView
  pub body : List TokenView
  pub has_params : Listed IsName params m.params
  pub has_body : SpellsBlock limit region.Method limit body m.body
  pub all : ts ≡ Key key.Func ∷ Name m.name ∷ Sign mark.Open ∷ (params ++ (Sign mark.Close ∷ body))

-- Tokens are an actor: `actor name`, perhaps its executor, and in braces its fields, perhaps its invariant, and its
-- methods.
pub record IsActor (limit : ℕ) (ts : List TokenView) (a : ActorTree) : Type 0 where
  pub on : List TokenView
  pub fields : List TokenView
  pub invariant : List TokenView
  pub methods : List TokenView
  pub has_executor : IsOn on a.executor
  pub has_fields : Each IsField fields a.fields
  pub has_invariant : IsInvariant limit invariant a.invariant
  pub has_methods : Each (IsMethodDecl limit) methods a.methods
  pub all : ts ≡ Key key.Actor ∷ Name a.name ∷ (on ++ (Sign mark.OpenBrace ∷ (fields ++ (invariant ++ (methods ++ Sign mark.CloseBrace ∷ [])))))

-- Tokens are the call that a root is: `actor.method(..)`, with whole numbers.
pub record IsStart (ts : List TokenView) (r : RootTree) : Type 0 where
  pub args : List TokenView
  pub has_args : Listed IsInt args r.args
  pub all : ts ≡ Name r.actor ∷ Sign mark.Dot ∷ Name r.method ∷ Sign mark.Open ∷ (args ++ Sign mark.Close ∷ [])

-- Tokens are a root: `root name = actor.method(..)`, perhaps its priority, and a semicolon. Without one it is medium.
pub record IsRoot (ts : List TokenView) (r : RootTree) : Type 0 where
  pub start : List TokenView
  pub at : List TokenView
  pub priority : Option Priority
  pub has_start : IsStart start r
  pub has_priority : IsPriorityGiven at priority
  pub is : r.priority ≡ or_medium priority
  pub all : ts ≡ Key key.Root ∷ Name r.name ∷ Sign mark.Assign ∷ (start ++ (at ++ Sign mark.Semicolon ∷ []))

-- Tokens are a declaration: an executor, a task local, an actor or a root.
pub data IsDecl (limit : ℕ) : List TokenView → DeclTree → Type 0 where
  an_executor : {ts : List TokenView} {x : ExecutorTree} → IsExecutorDecl ts x → IsDecl limit ts (Executes x)
  a_local : {ts : List TokenView} {l : LocalTree} → IsLocal ts l → IsDecl limit ts (Binds l)
  an_actor : {ts : List TokenView} {a : ActorTree} → IsActor limit ts a → IsDecl limit ts (Acts a)
  a_root : {ts : List TokenView} {r : RootTree} → IsRoot ts r → IsDecl limit ts (Roots r)

-- Tokens are a script: those of its declarations, one after the other, in text order.
abbrev pub IsScript : ℕ → List TokenView → List DeclTree → Type 0
IsScript limit ts decls = Each (IsDecl limit) ts decls
