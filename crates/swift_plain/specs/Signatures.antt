-- What methods give in Swift: a number or nothing, and perhaps an error. (Own.)
use Rattle.std.specs.Prelude.{◌&&◌, ◌||◌, ℕ, Bool, true, false, List, bytes_eq, Option, Some, None}
use Rattle.std.specs.List.{list_any}
use Rattle.script_grammar.specs.Tree.{ExprTree, CallTree, AwaitedTree, Called, TaskOf, NextOf, WaitTree, ValueTree, Computed, Waited, MakeTree, ActionTree, Let, LetTask, Assign, Await, Makes, Adds, Cancel, Return, Throw, Check, Yield, HeadTree, If, While, Bind, Group, Assume, StmtTree, Do, Headed, IfElse, BlockTree, nothing, first_then, block_tree, MethodTree, DeclTree, Executes, Binds, Acts, Roots}
use Rattle.plain_parts.specs.Flow.{SoughtTree, Returned, Wanted, call_of, has}
use Rattle.swift_plain.specs.declared.signature.Thrower.{Thrower}

-- A method that throws, by the names of its actor and itself.
pub record ThrowerTree : Type 0 where
  pub actor : List ℕ
  pub method : List ℕ

-- a method that throws, of the code
abbrev pub view_thrower : Thrower → ThrowerTree
view_thrower t = record { actor = t.actor.now.text.items; method = t.method.now.text.items }

-- whether this is the method of these names
abbrev pub is_thrower : List ℕ → List ℕ → ThrowerTree → Bool
is_thrower a m t = bytes_eq t.actor a && bytes_eq t.method m

-- whether a method is among those that throw
abbrev pub method_throws : List ThrowerTree → List ℕ → List ℕ → Bool
method_throws ts a m = list_any (is_thrower a m) ts

-- whether a call is one of a method that throws
abbrev pub call_throws : List ThrowerTree → CallTree → Bool
call_throws ts c = method_throws ts c.actor c.method

-- whether a task that is made throws
abbrev pub make_throws : List ThrowerTree → MakeTree → Bool
make_throws ts m = call_throws ts (call_of m)

-- whether an action makes a task or a child that throws
abbrev pub action_makes_throwing : List ThrowerTree → ActionTree → Bool
action_makes_throwing ts (Let n v) = false
action_makes_throwing ts (LetTask n m) = make_throws ts m
action_makes_throwing ts (Assign n v) = false
action_makes_throwing ts (Await w) = false
action_makes_throwing ts (Makes m) = make_throws ts m
action_makes_throwing ts (Adds d) = call_throws ts d.call
action_makes_throwing ts (Cancel n) = false
action_makes_throwing ts (Return e) = false
action_makes_throwing ts (Throw e) = false
action_makes_throwing ts Check = false
action_makes_throwing ts Yield = false

abbrev mutual
  -- whether a block makes a task or a child that throws
  pub makes_throwing : BlockTree → List ThrowerTree → Bool
  makes_throwing nothing ts = false
  makes_throwing (first_then s b) ts = makes_throwing_at s ts || makes_throwing b ts

  -- whether a statement does, or one in it
  pub makes_throwing_at : StmtTree → List ThrowerTree → Bool
  makes_throwing_at (Do a) ts = action_makes_throwing ts a
  makes_throwing_at (Headed h b) ts = makes_throwing b ts
  makes_throwing_at (IfElse e a b) ts = makes_throwing a ts || makes_throwing b ts

-- whether an action makes a task of this name that throws
abbrev pub is_throwing_task : List ThrowerTree → List ℕ → ActionTree → Bool
is_throwing_task ts w (Let n v) = false
is_throwing_task ts w (LetTask n m) = bytes_eq n w && make_throws ts m
is_throwing_task ts w (Assign n v) = false
is_throwing_task ts w (Await x) = false
is_throwing_task ts w (Makes m) = false
is_throwing_task ts w (Adds d) = false
is_throwing_task ts w (Cancel n) = false
is_throwing_task ts w (Return e) = false
is_throwing_task ts w (Throw e) = false
is_throwing_task ts w Check = false
is_throwing_task ts w Yield = false

abbrev mutual
  -- whether a block makes a task of this name that throws
  pub task_throws : BlockTree → List ThrowerTree → List ℕ → Bool
  task_throws nothing ts w = false
  task_throws (first_then s b) ts w = task_throws_at s ts w || task_throws b ts w

  -- whether a statement does, or one in it
  pub task_throws_at : StmtTree → List ThrowerTree → List ℕ → Bool
  task_throws_at (Do a) ts w = is_throwing_task ts w a
  task_throws_at (Headed h b) ts w = task_throws b ts w
  task_throws_at (IfElse e a b) ts w = task_throws a ts w || task_throws b ts w

-- Whether what is awaited may end with an error, in a method with this body. Of a group's result its group says so.
abbrev pub awaited_throws : List ThrowerTree → BlockTree → AwaitedTree → Bool
awaited_throws ts body (Called c) = call_throws ts c
awaited_throws ts body (TaskOf w) = task_throws body ts w
awaited_throws ts body (NextOf w) = false

-- whether a wait lets an error out
abbrev pub lets_out : Option ExprTree → Bool → Bool
lets_out None b = b
lets_out (Some e) b = false

-- whether a wait throws
abbrev pub wait_throws : List ThrowerTree → BlockTree → WaitTree → Bool
wait_throws ts body x = lets_out x.other (awaited_throws ts body x.for)

-- whether a value is a wait that throws
abbrev pub value_throws : List ThrowerTree → BlockTree → ValueTree → Bool
value_throws ts body (Computed e) = false
value_throws ts body (Waited x) = wait_throws ts body x

-- whether an action throws
abbrev pub action_throws : List ThrowerTree → BlockTree → ActionTree → Bool
action_throws ts body (Let n v) = value_throws ts body v
action_throws ts body (LetTask n m) = false
action_throws ts body (Assign n v) = value_throws ts body v
action_throws ts body (Await x) = wait_throws ts body x
action_throws ts body (Makes m) = false
action_throws ts body (Adds d) = false
action_throws ts body (Cancel n) = false
action_throws ts body (Return e) = false
action_throws ts body (Throw e) = true
action_throws ts body Check = true
action_throws ts body Yield = false

-- whether a block is that of a group
abbrev pub is_group : HeadTree → Bool
is_group (If e) = false
is_group (While e) = false
is_group (Bind n e) = false
is_group (Group n) = true
is_group (Assume n) = false

abbrev mutual
  -- whether a block of a method with this body throws
  pub throws : BlockTree → List ThrowerTree → BlockTree → Bool
  throws nothing ts body = false
  throws (first_then s b) ts body = throws_at s ts body || throws b ts body

  -- Whether a statement does, or one in it. A group does where a child does.
  pub throws_at : StmtTree → List ThrowerTree → BlockTree → Bool
  throws_at (Do a) ts body = action_throws ts body a
  throws_at (Headed h b) ts body = (is_group h && makes_throwing b ts) || throws b ts body
  throws_at (IfElse e a b) ts body = throws a ts body || throws b ts body

-- whether the group of a block throws: a child does, or a statement in it
abbrev pub group_throws : BlockTree → List ThrowerTree → BlockTree → Bool
group_throws b ts body = makes_throwing b ts || throws b ts body

-- whether a method throws, where these do
abbrev pub body_throws : List ThrowerTree → MethodTree → Bool
body_throws ts m = throws (block_tree m.body) ts (block_tree m.body)

-- whether a method does what is looked for
abbrev pub method_has : SoughtTree → MethodTree → Bool
method_has t m = has (block_tree m.body) t

-- whether some method does
abbrev pub methods_have : SoughtTree → List MethodTree → Bool
methods_have t ms = list_any (method_has t) ms

-- whether a method of a declaration does
abbrev pub decl_has : SoughtTree → DeclTree → Bool
decl_has t (Executes x) = false
decl_has t (Binds l) = false
decl_has t (Acts a) = methods_have t a.methods
decl_has t (Roots r) = false

-- whether a method of a script does
abbrev pub decls_have : SoughtTree → List DeclTree → Bool
decls_have t ds = list_any (decl_has t) ds

-- whether a number is wanted of a method anywhere
abbrev pub is_wanted : List DeclTree → List ℕ → List ℕ → Bool
is_wanted ds a m = decls_have (Wanted a m) ds

-- whether a method has this name, and returns a number
abbrev pub is_returning : List ℕ → MethodTree → Bool
is_returning w m = bytes_eq m.name w && method_has Returned m

-- whether a method of this name returns a number
abbrev pub returns_by : List ℕ → List MethodTree → Bool
returns_by w ms = list_any (is_returning w) ms

-- whether a declaration is that of an actor whose method of this name returns a number
abbrev pub decl_returns : List ℕ → List ℕ → DeclTree → Bool
decl_returns a w (Executes x) = false
decl_returns a w (Binds l) = false
decl_returns a w (Acts r) = bytes_eq r.name a && returns_by w r.methods
decl_returns a w (Roots r) = false

-- whether a method of an actor returns a number
abbrev pub returns_number : List DeclTree → List ℕ → List ℕ → Bool
returns_number ds a w = list_any (decl_returns a w) ds

-- whether a method of an actor gives a number: it returns one, or one is wanted of it
abbrev pub gives_number : List DeclTree → List ℕ → List ℕ → Bool
gives_number ds a m = returns_number ds a m || is_wanted ds a m
