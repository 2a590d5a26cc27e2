-- What a script says: its tree, without lines, parentheses and where it lies in memory. A name is its text. (Own.)
use Rattle.std.specs.Prelude.{ℕ, ℤ, suc, max, Bool, List, [], ◌∷◌, map, Option, Some, None}
use Rattle.swift_types.specs.declared.operator.Operator.{Operator}
use Rattle.swift_types.specs.declared.priority.Priority.{Priority}
use Rattle.script_grammar.specs.declared.expression.Name.{Name}
use Rattle.script_grammar.specs.declared.expression.Expr.{Expr}
use Rattle.script_grammar.specs.declared.expression.Expr.TheVariants as expr
use Rattle.script_grammar.specs.declared.expression.Call.{Call}
use Rattle.script_grammar.specs.declared.expression.Awaited.{Awaited}
use Rattle.script_grammar.specs.declared.expression.Awaited.TheVariants as awaited
use Rattle.script_grammar.specs.declared.expression.Wait.{Wait}
use Rattle.script_grammar.specs.declared.expression.Value.{Value}
use Rattle.script_grammar.specs.declared.expression.Value.TheVariants as value
use Rattle.script_grammar.specs.declared.statement.Make.{Make}
use Rattle.script_grammar.specs.declared.statement.Make.TheVariants as make
use Rattle.script_grammar.specs.declared.statement.Add.{Add}
use Rattle.script_grammar.specs.declared.statement.Action.{Action}
use Rattle.script_grammar.specs.declared.statement.Action.TheVariants as action
use Rattle.script_grammar.specs.declared.statement.Head.{Head}
use Rattle.script_grammar.specs.declared.statement.Head.TheVariants as head
use Rattle.script_grammar.specs.declared.statement.Stmt.{Stmt}
use Rattle.script_grammar.specs.declared.statement.Stmt.TheOpen.{Stmt-F}
use Rattle.script_grammar.specs.declared.statement.Stmt.TheOpen as stmt
use Rattle.script_grammar.specs.declared.statement.Stmt.TheFolds.{fold-Stmt}
use Rattle.swift_types.specs.declared.executor_kind.ExecutorKind.{ExecutorKind}
use Rattle.script_grammar.specs.declared.declaration.Executor.{Executor}
use Rattle.script_grammar.specs.declared.declaration.Local.{Local as LocalDecl}
use Rattle.script_grammar.specs.declared.declaration.Field.{Field}
use Rattle.script_grammar.specs.declared.declaration.Method.{Method}
use Rattle.script_grammar.specs.declared.declaration.Actor.{Actor}
use Rattle.script_grammar.specs.declared.declaration.Root.{Root}
use Rattle.script_grammar.specs.declared.declaration.Decl.{Decl}
use Rattle.script_grammar.specs.declared.declaration.Decl.TheVariants as decl

-- An expression is an atom, a prefix of an expression, or an operator between two. An atom is a number, a name, what is
-- read of a task local, the task's priority, or whether the task is cancelled.
pub data ExprTree : Type 0 where
  Number : ℤ → ExprTree
  Named : List ℕ → ExprTree
  Local : List ℕ → ExprTree
  OwnPriority : ExprTree
  IsCancelled : ExprTree
  Negated : ExprTree → ExprTree
  Inverted : ExprTree → ExprTree
  Both : Operator → ExprTree → ExprTree → ExprTree

-- A call names an actor and one of its methods, and has arguments.
pub record CallTree : Type 0 where
  pub actor : List ℕ
  pub method : List ℕ
  pub args : List ExprTree

-- What is waited for: what a call gives, what a task ends with, or what the next child of a group ends with.
pub data AwaitedTree : Type 0 where
  Called : CallTree → AwaitedTree
  TaskOf : List ℕ → AwaitedTree
  NextOf : List ℕ → AwaitedTree

-- A wait, and perhaps its value where what is waited for ends with a fault.
pub record WaitTree : Type 0 where
  pub for : AwaitedTree
  pub other : Option ExprTree

-- A variable or a field is set to an expression's value, or to what is waited for.
pub data ValueTree : Type 0 where
  Computed : ExprTree → ValueTree
  Waited : WaitTree → ValueTree

-- A task is made: an unstructured one, perhaps with a priority of its own, or a detached one.
pub data MakeTree : Type 0 where
  Spawned : CallTree → Option Priority → MakeTree
  Detached : CallTree → Priority → MakeTree

-- A child of a group: whether it is left out where the group is cancelled, what it runs, and perhaps its priority.
pub record AddTree : Type 0 where
  pub group : List ℕ
  pub unless : Bool
  pub call : CallTree
  pub priority : Option Priority

-- A statement without a block makes a variable or a task, sets a variable or a field, waits, or ends the turn.
pub data ActionTree : Type 0 where
  Let : List ℕ → ValueTree → ActionTree
  LetTask : List ℕ → MakeTree → ActionTree
  Assign : List ℕ → ValueTree → ActionTree
  Await : WaitTree → ActionTree
  Makes : MakeTree → ActionTree
  Adds : AddTree → ActionTree
  Cancel : List ℕ → ActionTree
  Return : ExprTree → ActionTree
  Throw : ExprTree → ActionTree
  Check : ActionTree
  Yield : ActionTree

-- A block has a head: a test, a test that is repeated, a task local that is bound, a group, or an actor.
pub data HeadTree : Type 0 where
  If : ExprTree → HeadTree
  While : ExprTree → HeadTree
  Bind : List ℕ → ExprTree → HeadTree
  Group : List ℕ → HeadTree
  Assume : List ℕ → HeadTree

mutual
  -- A statement is an action, a head with its block, or a test with two blocks.
  pub data StmtTree : Type 0 where
    Do : ActionTree → StmtTree
    Headed : HeadTree → BlockTree → StmtTree
    IfElse : ExprTree → BlockTree → BlockTree → StmtTree

  -- The statements of a block stand in order.
  pub data BlockTree : Type 0 where
    nothing : BlockTree
    first_then : StmtTree → BlockTree → BlockTree

-- The statements of a list, as those of a block.
abbrev pub block_tree : List StmtTree → BlockTree
block_tree [] = nothing
block_tree (s ∷ ss) = first_then s (block_tree ss)

-- An executor has a name and a kind.
pub record ExecutorTree : Type 0 where
  pub name : List ℕ
  pub kind : ExecutorKind

-- A task local has a name and a default.
pub record LocalTree : Type 0 where
  pub name : List ℕ
  pub default : ℤ

-- A field has a name and a start value.
pub record FieldTree : Type 0 where
  pub name : List ℕ
  pub start : ℤ

-- A method has a name, the names of its parameters, and the statements of its block.
pub record MethodTree : Type 0 where
  pub name : List ℕ
  pub params : List (List ℕ)
  pub body : List StmtTree

-- An actor has a name, perhaps an executor that it runs on, fields, perhaps an invariant, and methods.
pub record ActorTree : Type 0 where
  pub name : List ℕ
  pub executor : Option (List ℕ)
  pub fields : List FieldTree
  pub invariant : Option ExprTree
  pub methods : List MethodTree

-- A root has a name, the actor and the method that it runs, arguments and a priority.
pub record RootTree : Type 0 where
  pub name : List ℕ
  pub actor : List ℕ
  pub method : List ℕ
  pub args : List ℤ
  pub priority : Priority

-- A declaration is an executor, a task local, an actor or a root.
pub data DeclTree : Type 0 where
  Executes : ExecutorTree → DeclTree
  Binds : LocalTree → DeclTree
  Acts : ActorTree → DeclTree
  Roots : RootTree → DeclTree

-- A number, a name or another atom has height 1, and a prefix or an operator has one more than its highest operand.
abbrev pub height_of : ExprTree → ℕ
height_of (Number n) = 1
height_of (Named n) = 1
height_of (Local n) = 1
height_of OwnPriority = 1
height_of IsCancelled = 1
height_of (Negated a) = suc (height_of a)
height_of (Inverted a) = suc (height_of a)
height_of (Both o a b) = suc (max (height_of a) (height_of b))

-- the text of a name of the code
abbrev pub text_of : Name → List ℕ
text_of n = n.text.items

-- the text of a name of the code, where there is one
abbrev pub text_if : Option Name → Option (List ℕ)
text_if None = None
text_if (Some n) = Some n.text.items

-- the tree of an expression of the code, whose boxes it leaves out
abbrev pub view : Expr → ExprTree
view (expr.Number n) = Number n
view (expr.Name n) = Named n.text.items
view (expr.Local n) = Local n.text.items
view expr.Priority = OwnPriority
view expr.Cancelled = IsCancelled
view (expr.Negate' p a) = Negated (view a)
view (expr.Not' p a) = Inverted (view a)
view (expr.Binary' o p a q b) = Both o (view a) (view b)

-- the tree of an expression of the code, where there is one
abbrev pub view_if : Option Expr → Option ExprTree
view_if None = None
view_if (Some e) = Some (view e)

-- the tree of a call of the code
abbrev pub view_call : Call → CallTree
view_call c = record { actor = c.actor.text.items; method = c.method.text.items; args = map view c.args.items }

-- the tree of what is waited for
abbrev pub view_awaited : Awaited → AwaitedTree
view_awaited (awaited.Call c) = Called (view_call c)
view_awaited (awaited.Task n) = TaskOf n.text.items
view_awaited (awaited.Next n) = NextOf n.text.items

-- the tree of a wait of the code
abbrev pub view_wait : Wait → WaitTree
view_wait w = record { for = view_awaited w.awaited; other = view_if w.other }

-- the tree of a value of the code
abbrev pub view_value : Value → ValueTree
view_value (value.Expr e) = Computed (view e)
view_value (value.Await w) = Waited (view_wait w)

-- the tree of a task that is made
abbrev pub view_make : Make → MakeTree
view_make (make.Spawn c p) = Spawned (view_call c) p
view_make (make.Detach c p) = Detached (view_call c) p

-- the tree of a child of a group
abbrev pub view_add : Add → AddTree
view_add a = record { group = a.group.text.items; unless = a.unless; call = view_call a.call; priority = a.priority }

-- the tree of a statement without a block
abbrev pub view_action : Action → ActionTree
view_action (action.Let n v) = Let n.text.items (view_value v)
view_action (action.LetTask n m) = LetTask n.text.items (view_make m)
view_action (action.Assign n v) = Assign n.text.items (view_value v)
view_action (action.Await w) = Await (view_wait w)
view_action (action.Make m) = Makes (view_make m)
view_action (action.Add a) = Adds (view_add a)
view_action (action.Cancel n) = Cancel n.text.items
view_action (action.Return e) = Return (view e)
view_action (action.Throw e) = Throw (view e)
view_action action.Check = Check
view_action action.Yield = Yield

-- the tree of a head
abbrev pub view_head : Head → HeadTree
view_head (head.If e) = If (view e)
view_head (head.While e) = While (view e)
view_head (head.Bind n e) = Bind n.text.items (view e)
view_head (head.Group n) = Group n.text.items
view_head (head.Assume n) = Assume n.text.items

-- the tree of one statement of the code, in which the inner ones are trees already
abbrev pub view_one : Stmt-F StmtTree → StmtTree
view_one (stmt.Do a) = Do (view_action a.value)
view_one (stmt.Block h b) = Headed (view_head h) (block_tree b.items)
view_one (stmt.IfElse e a b) = IfElse (view e) (block_tree a.items) (block_tree b.items)

-- the tree of a statement of the code
abbrev pub view_stmt : Stmt → StmtTree
view_stmt = fold-Stmt StmtTree view_one

-- the tree of an executor of the code
abbrev pub view_executor : Executor → ExecutorTree
view_executor x = record { name = x.name.text.items; kind = x.kind }

-- the tree of a task local of the code
abbrev pub view_local : LocalDecl → LocalTree
view_local l = record { name = l.name.text.items; default = l.default }

-- the tree of a field of the code
abbrev pub view_field : Field → FieldTree
view_field f = record { name = f.name.text.items; start = f.start }

-- the tree of a method of the code
abbrev pub view_method : Method → MethodTree
view_method m = record { name = m.name.text.items; params = map text_of m.params.items; body = map view_stmt m.body.items }

-- the tree of an actor of the code
abbrev pub view_actor : Actor → ActorTree
view_actor a = record { name = a.name.text.items; executor = text_if a.executor; fields = map view_field a.fields.items; invariant = view_if a.invariant; methods = map view_method a.methods.items }

-- the tree of a root of the code
abbrev pub view_root : Root → RootTree
view_root r = record { name = r.name.text.items; actor = r.actor.text.items; method = r.method.text.items; args = r.args.items; priority = r.priority }

-- the tree of a declaration of the code
abbrev pub view_decl : Decl → DeclTree
view_decl (decl.Executor x) = Executes (view_executor x)
view_decl (decl.Local l) = Binds (view_local l)
view_decl (decl.Actor a) = Acts (view_actor a)
view_decl (decl.Root r) = Roots (view_root r)
