-- The tokens of the printed form of each part of a script, in order.
use Rattle.std.specs.Prelude.{ℕ, ℤ, pos, negsuc, suc, Bool, true, false, List, [], ◌∷◌, ◌++◌, Option, Some, None}
use Rattle.std.specs.List.{flat_map}
use Rattle.swift_types.specs.declared.priority.Priority.{Priority}
use Rattle.swift_types.specs.declared.priority.Priority.TheVariants.{Background, Low, Medium, High}
use Rattle.script_tokens.specs.declared.keyword.Keyword.{Keyword}
use Rattle.script_tokens.specs.declared.keyword.Keyword.TheVariants as key
use Rattle.script_tokens.specs.declared.mark.Mark.TheVariants as mark
use Rattle.script_tokens.specs.Pieces.{TokenView, Num, Name, Key, Sign}
use Rattle.swift_types.specs.declared.executor_kind.ExecutorKind.{ExecutorKind}
use Rattle.swift_types.specs.declared.executor_kind.ExecutorKind.TheVariants as kind
use Rattle.script_grammar.specs.Grammar.{mark_of}
use Rattle.script_grammar.specs.Tree.{ExprTree, Number, Named, Local, OwnPriority, IsCancelled, Negated, Inverted, Both, CallTree, AwaitedTree, Called, TaskOf, NextOf, WaitTree, ValueTree, Computed, Waited, MakeTree, Spawned, Detached, AddTree, ActionTree, Let, LetTask, Assign, Await, Makes, Adds, Cancel, Return, Throw, Check, Yield, HeadTree, If, While, Bind, Group, Assume, StmtTree, Do, Headed, IfElse, BlockTree, nothing, first_then, block_tree, ExecutorTree, LocalTree, FieldTree, MethodTree, ActorTree, RootTree, DeclTree, Executes, Binds, Acts, Roots}
use Rattle.script_printing.specs.Script.{ScriptView, declarations_of}

-- an expression: each use of an operator is in a parenthesis, and nothing else is
abbrev pub pieces_of : ExprTree → List TokenView
pieces_of (Number n) = Num n ∷ []
pieces_of (Named w) = Name w ∷ []
pieces_of (Local w) = Sign mark.At ∷ Name w ∷ []
pieces_of OwnPriority = Key key.Priority ∷ []
pieces_of IsCancelled = Key key.Cancelled ∷ []
pieces_of (Negated a) = Sign mark.Open ∷ Sign mark.Minus ∷ (pieces_of a ++ Sign mark.Close ∷ [])
pieces_of (Inverted a) = Sign mark.Open ∷ Sign mark.Bang ∷ (pieces_of a ++ Sign mark.Close ∷ [])
pieces_of (Both op a b) = Sign mark.Open ∷ (pieces_of a ++ Sign (mark_of op) ∷ (pieces_of b ++ Sign mark.Close ∷ []))

-- a number, whose minus is a token of its own
abbrev pub pieces_of_int : ℤ → List TokenView
pieces_of_int (pos n) = Num (pos n) ∷ []
pieces_of_int (negsuc n) = Sign mark.Minus ∷ Num (pos (suc n)) ∷ []

-- a name is one token
abbrev pub pieces_of_name : List ℕ → List TokenView
pieces_of_name w = Name w ∷ []

-- a comma, and a value
abbrev pub after_comma : {A : Type 0} → (A → List TokenView) → A → List TokenView
after_comma f x = Sign mark.Comma ∷ f x

-- values with commas between them
abbrev pub listed : {A : Type 0} → (A → List TokenView) → List A → List TokenView
listed f [] = []
listed f (x ∷ xs) = f x ++ flat_map (after_comma f) xs

-- in braces
abbrev pub braced : List TokenView → List TokenView
braced ps = Sign mark.OpenBrace ∷ (ps ++ Sign mark.CloseBrace ∷ [])

-- with a semicolon after it
abbrev pub ended : List TokenView → List TokenView
ended ps = ps ++ Sign mark.Semicolon ∷ []

-- what a name is set to
abbrev pub assigned : List ℕ → List TokenView → List TokenView
assigned w ps = Name w ∷ Sign mark.Assign ∷ ps

-- the tokens of a call
abbrev pub pieces_of_call : CallTree → List TokenView
pieces_of_call c = Name c.actor ∷ Sign mark.Dot ∷ Name c.method ∷ Sign mark.Open ∷ (listed pieces_of c.args ++ Sign mark.Close ∷ [])

-- the tokens of what is waited for
abbrev pub pieces_of_awaited : AwaitedTree → List TokenView
pieces_of_awaited (Called c) = pieces_of_call c
pieces_of_awaited (TaskOf w) = Key key.Task ∷ Name w ∷ []
pieces_of_awaited (NextOf w) = Key key.Next ∷ Name w ∷ []

-- an `else` that is absent is not printed
abbrev pub pieces_of_else : Option ExprTree → List TokenView
pieces_of_else None = []
pieces_of_else (Some t) = Key key.Else ∷ pieces_of t

-- the tokens of a wait
abbrev pub pieces_of_wait : WaitTree → List TokenView
pieces_of_wait w = pieces_of_awaited w.for ++ pieces_of_else w.other

-- the tokens of a value
abbrev pub pieces_of_value : ValueTree → List TokenView
pieces_of_value (Computed t) = pieces_of t
pieces_of_value (Waited w) = Key key.Await ∷ pieces_of_wait w

-- the keyword of a priority
abbrev pub keyword_of_priority : Priority → Keyword
keyword_of_priority Background = key.Background
keyword_of_priority Low = key.Low
keyword_of_priority Medium = key.Medium
keyword_of_priority High = key.High

-- a priority, after the word `at`
abbrev pub pieces_of_priority : Priority → List TokenView
pieces_of_priority p = Key key.At ∷ Key (keyword_of_priority p) ∷ []

-- a priority that is not given is not printed
abbrev pub pieces_of_given : Option Priority → List TokenView
pieces_of_given None = []
pieces_of_given (Some p) = pieces_of_priority p

-- The priority of a detached task is always printed.
abbrev pub pieces_of_make : MakeTree → List TokenView
pieces_of_make (Spawned c p) = Key key.Spawn ∷ (pieces_of_call c ++ pieces_of_given p)
pieces_of_make (Detached c p) = Key key.Detach ∷ (pieces_of_call c ++ pieces_of_priority p)

-- the keyword of a child that is left out where its group is cancelled
abbrev pub pieces_of_unless : Bool → List TokenView
pieces_of_unless false = []
pieces_of_unless true = Key key.Unless ∷ []

-- a child of a group, after its keyword
abbrev pub pieces_of_add : AddTree → List TokenView
pieces_of_add a = Name a.group ∷ (pieces_of_unless a.unless ++ (pieces_of_call a.call ++ pieces_of_given a.priority))

-- a statement without a block, up to its semicolon
abbrev pub pieces_of_action : ActionTree → List TokenView
pieces_of_action (Let x v) = Key key.Let ∷ assigned x (pieces_of_value v)
pieces_of_action (LetTask x m) = Key key.Let ∷ assigned x (pieces_of_make m)
pieces_of_action (Assign x v) = assigned x (pieces_of_value v)
pieces_of_action (Await w) = Key key.Await ∷ pieces_of_wait w
pieces_of_action (Makes m) = pieces_of_make m
pieces_of_action (Adds a) = Key key.Add ∷ pieces_of_add a
pieces_of_action (Cancel x) = Key key.Cancel ∷ Name x ∷ []
pieces_of_action (Return t) = Key key.Return ∷ pieces_of t
pieces_of_action (Throw t) = Key key.Throw ∷ pieces_of t
pieces_of_action Check = Key key.Check ∷ []
pieces_of_action Yield = Key key.Yield ∷ []

-- what comes before a block
abbrev pub pieces_of_head : HeadTree → List TokenView
pieces_of_head (If t) = Key key.If ∷ pieces_of t
pieces_of_head (While t) = Key key.While ∷ pieces_of t
pieces_of_head (Bind l t) = Key key.Bind ∷ assigned l (pieces_of t)
pieces_of_head (Group g) = Key key.Group ∷ Name g ∷ []
pieces_of_head (Assume a) = Key key.Assume ∷ Name a ∷ []

abbrev mutual
  -- a statement: one without a block has a semicolon after it, and blocks are in braces
  pub pieces_of_stmt : StmtTree → List TokenView
  pieces_of_stmt (Do a) = ended (pieces_of_action a)
  pieces_of_stmt (Headed h ss) = pieces_of_head h ++ braced (pieces_of_block ss)
  pieces_of_stmt (IfElse t ss rs) = Key key.If ∷ (pieces_of t ++ (braced (pieces_of_block ss) ++ Key key.Else ∷ braced (pieces_of_block rs)))

  -- the statements of a block, without its braces
  pub pieces_of_block : BlockTree → List TokenView
  pieces_of_block nothing = []
  pieces_of_block (first_then s ss) = pieces_of_stmt s ++ pieces_of_block ss

-- the tokens of an executor's kind
abbrev pub pieces_of_kind : ExecutorKind → List TokenView
pieces_of_kind kind.Priority = Key key.Priority ∷ []
pieces_of_kind kind.Fifo = Key key.Fifo ∷ []
pieces_of_kind (kind.Pinned n) = Key key.Pinned ∷ Num n ∷ []

-- an executor after its keyword
abbrev pub after_executor_keyword : ExecutorTree → List TokenView
after_executor_keyword x = Name x.name ∷ ended (pieces_of_kind x.kind)

-- a task local after its keyword
abbrev pub after_local_keyword : LocalTree → List TokenView
after_local_keyword l = assigned l.name (ended (pieces_of_int l.default))

-- the tokens of a field
abbrev pub pieces_of_field : FieldTree → List TokenView
pieces_of_field f = Key key.Var ∷ assigned f.name (ended (pieces_of_int f.start))

-- an executor that is not named is not printed
abbrev pub pieces_of_on : Option (List ℕ) → List TokenView
pieces_of_on None = []
pieces_of_on (Some w) = Key key.On ∷ Name w ∷ []

-- an invariant that is absent is not printed
abbrev pub pieces_of_invariant : Option ExprTree → List TokenView
pieces_of_invariant None = []
pieces_of_invariant (Some t) = Key key.Invariant ∷ ended (pieces_of t)

-- the tokens of a method
abbrev pub pieces_of_method : MethodTree → List TokenView
pieces_of_method m = Key key.Func ∷ Name m.name ∷ Sign mark.Open ∷ (listed pieces_of_name m.params ++ Sign mark.Close ∷ braced (pieces_of_block (block_tree m.body)))

-- an actor after its keyword
abbrev pub after_actor_keyword : ActorTree → List TokenView
after_actor_keyword a = Name a.name ∷ (pieces_of_on a.executor ++ braced (flat_map pieces_of_field a.fields ++ (pieces_of_invariant a.invariant ++ flat_map pieces_of_method a.methods)))

-- what a root calls
abbrev pub pieces_of_start : RootTree → List TokenView
pieces_of_start r = Name r.actor ∷ Sign mark.Dot ∷ Name r.method ∷ Sign mark.Open ∷ (listed pieces_of_int r.args ++ Sign mark.Close ∷ [])

-- A root after its keyword. Its priority is always printed.
abbrev pub after_root_keyword : RootTree → List TokenView
after_root_keyword r = assigned r.name (pieces_of_start r ++ ended (pieces_of_priority r.priority))

-- the tokens of a declaration
abbrev pub pieces_of_decl : DeclTree → List TokenView
pieces_of_decl (Executes x) = Key key.Executor ∷ after_executor_keyword x
pieces_of_decl (Binds l) = Key key.Local ∷ after_local_keyword l
pieces_of_decl (Acts a) = Key key.Actor ∷ after_actor_keyword a
pieces_of_decl (Roots r) = Key key.Root ∷ after_root_keyword r

-- the tokens of a script: those of its declarations
abbrev pub pieces_of_script : ScriptView → List TokenView
pieces_of_script s = flat_map pieces_of_decl (declarations_of s)
