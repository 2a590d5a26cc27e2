-- The rules on names and counts: the first error of a script, in order of place in its text. Its place is said by how many
-- names come before it. The rule on roots that wait for one another is none of these. (Own.)
use Rattle.std.specs.Prelude.{ℕ, pos, negsuc, suc, Bool, true, false, ◌==◌, nat_le, nat_lt, if◌then◌else◌, Option, Some, None, List, [], ◌∷◌, ◌++◌, length}
use Rattle.swift_types.specs.declared.limits.TheConstants.{ACTORS, EXECUTORS, TASKS, WORKERS}
use Rattle.swift_types.specs.declared.executor_kind.ExecutorKind.{ExecutorKind}
use Rattle.swift_types.specs.declared.executor_kind.ExecutorKind.TheVariants as executor
use Rattle.script_grammar.specs.Tree.{ExprTree, Number, Named, Local, OwnPriority, IsCancelled, Negated, Inverted, Both, CallTree, AwaitedTree, Called, TaskOf, NextOf, WaitTree, ValueTree, Computed, Waited, MakeTree, Spawned, Detached, ActionTree, Let, LetTask, Assign, Await, Makes, Adds, Cancel, Return, Throw, Check, Yield, HeadTree, If, While, Bind, Group, Assume, StmtTree, Do, Headed, IfElse, BlockTree, nothing, first_then, block_tree, ExecutorTree, FieldTree, MethodTree, ActorTree, RootTree, DeclTree, Executes, Binds, Acts, Roots}
use Rattle.script_names.specs.declared.scope.NameKind.{NameKind}
use Rattle.script_names.specs.declared.scope.NameKind.TheVariants as kind
use Rattle.script_names.specs.declared.error.NameErrorKind.{NameErrorKind}
use Rattle.script_names.specs.declared.error.NameErrorKind.TheVariants.{Twice, Unknown, Arguments, Confused, BoundInside, TooMany, TooGreat}
use Rattle.script_names.specs.declared.error.NameError.{NameError}
use Rattle.script_names.specs.Texts.{is_among, place_of}
use Rattle.script_names.specs.Directory.{DirectoryView, has_method, arity_of, fields_at, directory_of}
use Rattle.script_names.specs.Scope.{ScopeView, fields_alone, with_standing, meaning_of, share_a_name}

-- the earlier of two errors
abbrev pub earlier : Option NameError → Option NameError → Option NameError
earlier None later = later
earlier (Some e) later = Some e

-- what is wrong with the name before which `at` names come in the text
abbrev pub at_name : ℕ → Option NameErrorKind → Option NameError
at_name at None = None
at_name at (Some k) = Some (record { kind = k; names_before = at })

-- this fault, where the test holds
abbrev pub where_so : Bool → NameErrorKind → Option NameErrorKind
where_so true k = Some k
where_so false k = None

-- how many names come up to the end of an expression, where `at` come before it
abbrev pub past : ExprTree → ℕ → ℕ
past (Number n) at = at
past (Named n) at = suc at
past (Local n) at = suc at
past OwnPriority at = at
past IsCancelled at = at
past (Negated a) at = past a at
past (Inverted a) at = past a at
past (Both o a b) at = past b (past a at)

-- how many names come up to the end of a list of expressions, where `at` come before it
abbrev pub past_all : List ExprTree → ℕ → ℕ
past_all [] at = at
past_all (e ∷ es) at = past_all es (past e at)

-- how many names come up to the end of an expression that may be absent, where `at` come before it
abbrev pub past_if : Option ExprTree → ℕ → ℕ
past_if None at = at
past_if (Some e) at = past e at

-- how many names come up to the end of a call, where `at` come before it: its actor, its method, and those of its arguments
abbrev pub past_call : CallTree → ℕ → ℕ
past_call c at = past_all c.args (suc (suc at))

-- how many names come up to the end of what is waited for, where `at` come before it; a task and a group are one name
abbrev pub past_awaited : AwaitedTree → ℕ → ℕ
past_awaited (Called c) at = past_call c at
past_awaited (TaskOf n) at = suc at
past_awaited (NextOf n) at = suc at

-- how many names come up to the end of a wait and its `else`, where `at` come before it
abbrev pub past_wait : WaitTree → ℕ → ℕ
past_wait w at = past_if w.other (past_awaited w.for at)

-- how many names come up to the end of a value, where `at` come before it
abbrev pub past_value : ValueTree → ℕ → ℕ
past_value (Computed e) at = past e at
past_value (Waited w) at = past_wait w at

-- how many names come up to the end of a `spawn` or a `detach`, where `at` come before it: those of its call
abbrev pub past_make : MakeTree → ℕ → ℕ
past_make (Spawned c p) at = past_call c at
past_make (Detached c p) at = past_call c at

-- how many names come up to the end of a statement without a block, where `at` come before it
abbrev pub past_action : ActionTree → ℕ → ℕ
past_action (Let n v) at = past_value v (suc at)
past_action (LetTask n m) at = past_make m (suc at)
past_action (Assign n v) at = past_value v (suc at)
past_action (Await w) at = past_wait w at
past_action (Makes m) at = past_make m at
past_action (Adds a) at = past_call a.call (suc at)
past_action (Cancel n) at = suc at
past_action (Return e) at = past e at
past_action (Throw e) at = past e at
past_action Check at = at
past_action Yield at = at

-- how many names come up to the end of a block's head, where `at` come before it
abbrev pub past_head : HeadTree → ℕ → ℕ
past_head (If e) at = past e at
past_head (While e) at = past e at
past_head (Bind n e) at = past e (suc at)
past_head (Group n) at = suc at
past_head (Assume n) at = suc at

abbrev mutual
  -- how many names come up to the end of a statement, where `at` come before it: those of its blocks too
  pub past_stmt : StmtTree → ℕ → ℕ
  past_stmt (Do a) at = past_action a at
  past_stmt (Headed h b) at = past_block b (past_head h at)
  past_stmt (IfElse t a b) at = past_block b (past_block a (past t at))

  -- how many names come up to the end of a block, where `at` come before it
  pub past_block : BlockTree → ℕ → ℕ
  past_block nothing at = at
  past_block (first_then s ss) at = past_block ss (past_stmt s at)

-- how many names come up to the end of a list of names, where `at` come before it
abbrev pub past_names : List (List ℕ) → ℕ → ℕ
past_names [] at = at
past_names (n ∷ ns) at = past_names ns (suc at)

-- how many names come up to the end of a name that may be absent, where `at` come before it
abbrev pub past_name_if : Option (List ℕ) → ℕ → ℕ
past_name_if None at = at
past_name_if (Some n) at = suc at

-- how many names come up to the end of a method, where `at` come before it: its own, its parameters, and those of its body
abbrev pub past_method : MethodTree → ℕ → ℕ
past_method m at = past_block (block_tree m.body) (past_names m.params (suc at))

-- how many names come up to the end of an actor's methods, where `at` come before them
abbrev pub past_methods : List MethodTree → ℕ → ℕ
past_methods [] at = at
past_methods (m ∷ ms) at = past_methods ms (past_method m at)

-- how many names come up to the end of an actor's fields, where `at` come before them: each field is one
abbrev pub past_fields : List FieldTree → ℕ → ℕ
past_fields [] at = at
past_fields (f ∷ fs) at = past_fields fs (suc at)

-- how many names come up to the end of an actor, where `at` come before it, in the order of its text
abbrev pub past_actor : ActorTree → ℕ → ℕ
past_actor a at = past_methods a.methods (past_if a.invariant (past_fields a.fields (past_name_if a.executor (suc at))))

-- how many names come up to the end of a declaration, where `at` come before it; a root has its own, an actor and a method
abbrev pub past_decl : DeclTree → ℕ → ℕ
past_decl (Executes x) at = suc at
past_decl (Binds l) at = suc at
past_decl (Acts a) at = past_actor a at
past_decl (Roots r) at = suc (suc (suc at))

-- how many names come up to the end of declarations, where `at` come before them
abbrev pub past_decls : List DeclTree → ℕ → ℕ
past_decls [] at = at
past_decls (x ∷ xs) at = past_decls xs (past_decl x at)

-- how many names a script has: those that are declared, and each where it is used
abbrev pub names_in : List DeclTree → ℕ
names_in decls = past_decls decls 0

-- A name that is read or set is a field or a number.
abbrev pub number_fault : Option NameKind → Option NameErrorKind
number_fault None = Some Unknown
number_fault (Some kind.Field) = None
number_fault (Some kind.Number) = None
number_fault (Some kind.Task) = Some Confused
number_fault (Some kind.Group) = Some Confused

-- A name after `next` or `add` is a group.
abbrev pub group_fault : Option NameKind → Option NameErrorKind
group_fault None = Some Unknown
group_fault (Some kind.Field) = Some Confused
group_fault (Some kind.Number) = Some Confused
group_fault (Some kind.Task) = Some Confused
group_fault (Some kind.Group) = None

-- A name that is no task there is a root, whatever else it means.
abbrev pub root_fault : Bool → Option NameKind → Option NameErrorKind
root_fault true meaning = None
root_fault false None = Some Unknown
root_fault false (Some k) = Some Confused

-- A name after `task` is a task variable, or else a root.
abbrev pub task_fault : Bool → Option NameKind → Option NameErrorKind
task_fault is_root (Some kind.Task) = None
task_fault is_root meaning = root_fault is_root meaning

-- A name after `cancel` is a task variable or a group, or else a root.
abbrev pub cancel_fault : Bool → Option NameKind → Option NameErrorKind
cancel_fault is_root (Some kind.Task) = None
cancel_fault is_root (Some kind.Group) = None
cancel_fault is_root meaning = root_fault is_root meaning

-- A new name means nothing yet: it is no field, and nothing else has it.
abbrev pub new_fault : Option NameKind → Option NameErrorKind
new_fault None = None
new_fault (Some k) = Some Twice

-- A name that must be declared is one of these.
abbrev pub declared_fault : List (List ℕ) → List ℕ → Option NameErrorKind
declared_fault names name = if is_among names name then None else Some Unknown

-- A child is added to a group that was opened inside the innermost open `bind`.
abbrev pub bind_fault : ScopeView → List ℕ → Option NameErrorKind
bind_fault s group = where_so (nat_lt (place_of s.names group) s.bound) BoundInside

-- the first of two faults of one name
abbrev pub or_else : Option NameErrorKind → Option NameErrorKind → Option NameErrorKind
or_else None other = other
or_else (Some k) other = Some k

-- the first error of an expression with `at` names before it: it names fields and numbers, and task locals that are declared
abbrev pub expression_error : ScopeView → ℕ → ExprTree → Option NameError
expression_error s at (Number n) = None
expression_error s at (Named n) = at_name at (number_fault (meaning_of s n))
expression_error s at (Local n) = at_name at (declared_fault s.directory.locals n)
expression_error s at OwnPriority = None
expression_error s at IsCancelled = None
expression_error s at (Negated a) = expression_error s at a
expression_error s at (Inverted a) = expression_error s at a
expression_error s at (Both o a b) = earlier (expression_error s at a) (expression_error s (past a at) b)

-- the first error of a list of expressions with `at` names before it, in order
abbrev pub expressions_error : ScopeView → ℕ → List ExprTree → Option NameError
expressions_error s at [] = None
expressions_error s at (e ∷ es) = earlier (expression_error s at e) (expressions_error s (past e at) es)

-- the first error of an expression that may be absent, with `at` names before it; none where it is absent
abbrev pub optional_error : ScopeView → ℕ → Option ExprTree → Option NameError
optional_error s at None = None
optional_error s at (Some e) = expression_error s at e

-- A call names an actor, one of its methods, and as many arguments as that has parameters. An error is at the actor
-- where none has that name, and else at the method.
abbrev pub target_error : DirectoryView → ℕ → List ℕ → List ℕ → ℕ → Option NameError
target_error d at actor method count =
    if is_among d.actors actor
    then at_name (suc at) (if has_method d actor method then (if arity_of d actor method == count then None else Some Arguments) else Some Unknown)
    else at_name at (Some Unknown)

-- The target comes first, and then the arguments.
abbrev pub call_error : ScopeView → ℕ → CallTree → Option NameError
call_error s at c = earlier (target_error s.directory at c.actor c.method (length c.args)) (expressions_error s (suc (suc at)) c.args)

-- the first error of what is waited for: that of a call, or of the name after `task` or `next`
abbrev pub awaited_error : ScopeView → ℕ → AwaitedTree → Option NameError
awaited_error s at (Called c) = call_error s at c
awaited_error s at (TaskOf n) = at_name at (task_fault (is_among s.directory.roots n) (meaning_of s n))
awaited_error s at (NextOf n) = at_name at (group_fault (meaning_of s n))

-- the first error of a wait: what is waited for comes first, and then the expression after `else`
abbrev pub wait_error : ScopeView → ℕ → WaitTree → Option NameError
wait_error s at w = earlier (awaited_error s at w.for) (optional_error s (past_awaited w.for at) w.other)

-- the first error of a value: that of an expression or of a wait
abbrev pub value_error : ScopeView → ℕ → ValueTree → Option NameError
value_error s at (Computed e) = expression_error s at e
value_error s at (Waited w) = wait_error s at w

-- the first error of a `spawn` or a `detach`: that of its call
abbrev pub make_error : ScopeView → ℕ → MakeTree → Option NameError
make_error s at (Spawned c p) = call_error s at c
make_error s at (Detached c p) = call_error s at c

-- A `let` takes a name that is not in scope, and its own name is not in scope in its value.
abbrev pub action_error : ScopeView → ℕ → ActionTree → Option NameError
action_error s at (Let n v) = earlier (at_name at (new_fault (meaning_of s n))) (value_error s (suc at) v)
action_error s at (LetTask n m) = earlier (at_name at (new_fault (meaning_of s n))) (make_error s (suc at) m)
action_error s at (Assign n v) = earlier (at_name at (number_fault (meaning_of s n))) (value_error s (suc at) v)
action_error s at (Await w) = wait_error s at w
action_error s at (Makes m) = make_error s at m
action_error s at (Adds a) = earlier (at_name at (or_else (group_fault (meaning_of s a.group)) (bind_fault s a.group))) (call_error s (suc at) a.call)
action_error s at (Cancel n) = at_name at (cancel_fault (is_among s.directory.roots n) (meaning_of s n))
action_error s at (Return e) = expression_error s at e
action_error s at (Throw e) = expression_error s at e
action_error s at Check = None
action_error s at Yield = None

-- the scope after a statement: the name of a `let` is in scope from its end on
abbrev pub scope_after : ScopeView → StmtTree → ScopeView
scope_after s (Do (Let n v)) = with_standing s n kind.Number
scope_after s (Do (LetTask n m)) = with_standing s n kind.Task
scope_after s _ = s

-- the scope within a block, by its head: a group is in scope in its block, and an `assume` brings another actor's fields
abbrev pub scope_within : ScopeView → HeadTree → ScopeView
scope_within s (If e) = s
scope_within s (While e) = s
scope_within s (Bind n e) = record s { bound = length s.names }
scope_within s (Group n) = with_standing s n kind.Group
scope_within s (Assume n) = record s { actor = place_of s.directory.actors n }

-- An `assume` names an actor, none of whose fields has a name that is in scope.
abbrev pub assume_fault : ScopeView → List ℕ → Option NameErrorKind
assume_fault s actor =
    if is_among s.directory.actors actor
    then where_so (share_a_name (fields_at s.directory (place_of s.directory.actors actor)) s.names) Twice
    else Some Unknown

-- the first error of a head: `bind` names a task local that is declared, `group` a new name, and `assume` an actor
abbrev pub head_error : ScopeView → ℕ → HeadTree → Option NameError
head_error s at (If e) = expression_error s at e
head_error s at (While e) = expression_error s at e
head_error s at (Bind n e) = earlier (at_name at (declared_fault s.directory.locals n)) (expression_error s (suc at) e)
head_error s at (Group n) = at_name at (new_fault (meaning_of s n))
head_error s at (Assume n) = at_name at (assume_fault s n)

abbrev mutual
  -- the first error of a statement: a head or a test comes first, and then each block
  pub stmt_error : ScopeView → ℕ → StmtTree → Option NameError
  stmt_error s at (Do a) = action_error s at a
  stmt_error s at (Headed h b) = earlier (head_error s at h) (block_error (scope_within s h) (past_head h at) b)
  stmt_error s at (IfElse t a b) = earlier (expression_error s at t) (earlier (block_error s (past t at) a) (block_error s (past_block a (past t at)) b))

  -- the first error of a block: a name that a statement makes is in scope from the next one to the end of the block
  pub block_error : ScopeView → ℕ → BlockTree → Option NameError
  block_error s at nothing = None
  block_error s at (first_then x xs) = earlier (stmt_error s at x) (block_error (scope_after s x) (past_stmt x at) xs)

-- Parameters are distinct, and distinct from the fields.
abbrev pub parameters_error : ScopeView → ℕ → List (List ℕ) → Option NameError
parameters_error s at [] = None
parameters_error s at (n ∷ ns) = earlier (at_name at (new_fault (meaning_of s n))) (parameters_error (with_standing s n kind.Number) (suc at) ns)

-- the scope after parameters: each is a number
abbrev pub with_parameters : ScopeView → List (List ℕ) → ScopeView
with_parameters s [] = s
with_parameters s (n ∷ ns) = with_parameters (with_standing s n kind.Number) ns

-- A name is none of those that are seen.
abbrev pub repeat_error : List (List ℕ) → ℕ → List ℕ → Option NameError
repeat_error seen at name = at_name at (where_so (is_among seen name) Twice)

-- the first error of a method, where `seen` are the names of those before it: its own name, its parameters, and its body
abbrev pub method_error : ScopeView → List (List ℕ) → ℕ → MethodTree → Option NameError
method_error s seen at m =
    earlier (repeat_error seen at m.name)
    (earlier (parameters_error s (suc at) m.params)
    (block_error (with_parameters s m.params) (past_names m.params (suc at)) (block_tree m.body)))

-- An actor's methods are distinct.
abbrev pub methods_error : ScopeView → List (List ℕ) → ℕ → List MethodTree → Option NameError
methods_error s seen at [] = None
methods_error s seen at (m ∷ ms) = earlier (method_error s seen at m) (methods_error s (seen ++ m.name ∷ []) (past_method m at) ms)

-- An actor's fields are distinct.
abbrev pub fields_error : List (List ℕ) → ℕ → List FieldTree → Option NameError
fields_error seen at [] = None
fields_error seen at (f ∷ fs) = earlier (repeat_error seen at f.name) (fields_error (seen ++ f.name ∷ []) (suc at) fs)

-- An actor runs on an executor that is declared.
abbrev pub on_error : DirectoryView → ℕ → Option (List ℕ) → Option NameError
on_error d at None = None
on_error d at (Some n) = at_name at (declared_fault d.executors n)

-- what is declared before a declaration: the names of executors and actors together, those of task locals and of roots, and
-- how many executors and actors there are
pub record SeenView : Type 0 where
  pub places : List (List ℕ)
  pub locals : List (List ℕ)
  pub roots : List (List ℕ)
  pub executors : ℕ
  pub actors : ℕ

-- a worker's number is below the greatest number of workers
abbrev pub kind_error : ℕ → ExecutorKind → Option NameError
kind_error at executor.Priority = None
kind_error at executor.Fifo = None
kind_error at (executor.Pinned (pos k)) = at_name at (where_so (nat_le WORKERS k) TooGreat)
kind_error at (executor.Pinned (negsuc k)) = None

-- Executors are distinct, also from actors, and at most 64.
abbrev pub executor_error : SeenView → ℕ → ExecutorTree → Option NameError
executor_error seen at x =
    earlier (repeat_error seen.places at x.name)
    (earlier (at_name at (where_so (nat_le EXECUTORS seen.executors) TooMany)) (kind_error at x.kind))

-- Actors are distinct, also from executors, and at most 64. An invariant names fields alone.
abbrev pub actor_error : DirectoryView → SeenView → ℕ → ActorTree → Option NameError
actor_error d seen at a =
    let s = fields_alone d seen.actors in
    let fields = past_name_if a.executor (suc at) in
    let invariant = past_fields a.fields fields in
    earlier (repeat_error seen.places at a.name)
    (earlier (at_name at (where_so (nat_le ACTORS seen.actors) TooMany))
    (earlier (on_error d (suc at) a.executor)
    (earlier (fields_error [] fields a.fields)
    (earlier (optional_error s invariant a.invariant) (methods_error s [] (past_if a.invariant invariant) a.methods)))))

-- Roots are distinct and at most 1,024, and each calls a method.
abbrev pub root_error : DirectoryView → SeenView → ℕ → RootTree → Option NameError
root_error d seen at r =
    earlier (repeat_error seen.roots at r.name)
    (earlier (at_name at (where_so (nat_le TASKS (length seen.roots)) TooMany)) (target_error d (suc at) r.actor r.method (length r.args)))

-- the first error of a declaration with `at` names before it, where `seen` is what is declared before it
abbrev pub decl_error : DirectoryView → SeenView → ℕ → DeclTree → Option NameError
decl_error d seen at (Executes x) = executor_error seen at x
decl_error d seen at (Binds l) = repeat_error seen.locals at l.name
decl_error d seen at (Acts a) = actor_error d seen at a
decl_error d seen at (Roots r) = root_error d seen at r

-- what is declared up to the end of a declaration, where `seen` is what is declared before it
abbrev pub seen_after : SeenView → DeclTree → SeenView
seen_after seen (Executes x) = record seen { places = seen.places ++ x.name ∷ []; executors = suc seen.executors }
seen_after seen (Binds l) = record seen { locals = seen.locals ++ l.name ∷ [] }
seen_after seen (Acts a) = record seen { places = seen.places ++ a.name ∷ []; actors = suc seen.actors }
seen_after seen (Roots r) = record seen { roots = seen.roots ++ r.name ∷ [] }

-- the first error of declarations, in order, with `at` names before the first, where `seen` is what is declared before it
abbrev pub declarations_error : DirectoryView → SeenView → ℕ → List DeclTree → Option NameError
declarations_error d seen at [] = None
declarations_error d seen at (x ∷ xs) = earlier (decl_error d seen at x) (declarations_error d (seen_after seen x) (past_decl x at) xs)

-- the first error of a script's names and counts, in order of place
abbrev pub names_error : List DeclTree → Option NameError
names_error decls = declarations_error (directory_of decls) (record { places = []; locals = []; roots = []; executors = 0; actors = 0 }) 0 decls
