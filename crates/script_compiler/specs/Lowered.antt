-- What a script's names stand for: fields, variables and handles by their places, all else by its number.
use Rattle.std.specs.Prelude.{ℕ, ℤ, ◌==◌, Bool, true, false, List, take, map, slice_get, unwrap_or, pos, count_by, Option, Some, None, if◌then◌else◌}
use Rattle.script_grammar.specs.Tree.{ExprTree, Number, Named, Local, OwnPriority, IsCancelled, Negated, Inverted, Both, CallTree, AwaitedTree, Called, TaskOf, NextOf, WaitTree, ValueTree, Computed, Waited, MakeTree, Spawned, Detached, ActionTree, Let, LetTask, Assign, Await, Makes, Adds, Cancel, Return, Throw, Check, Yield, HeadTree, If, While, Bind, Group, Assume, StmtTree, Do, Headed, IfElse, BlockTree, nothing, first_then}
use Rattle.script_names.specs.declared.scope.NameKind.{NameKind}
use Rattle.script_names.specs.declared.scope.NameKind.TheVariants as kind
use Rattle.script_names.specs.Texts.{is_among, place_of}
use Rattle.script_names.specs.Directory.{fields_at, method_place}
use Rattle.script_names.specs.Scope.{ScopeView, meaning_of}
use Rattle.script_names.specs.Rules.{scope_after, scope_within}
use Rattle.script_code.specs.declared.formula.FieldPlace.{FieldPlace}
use Rattle.script_code.specs.declared.instruction.NumberPlace.{NumberPlace}
use Rattle.script_code.specs.declared.instruction.NumberPlace.TheVariants.{Variable, Field}
use Rattle.script_code.specs.declared.instruction.Cancelled.{Cancelled}
use Rattle.script_code.specs.declared.instruction.Cancelled.TheVariants as cancelled_one
use Rattle.script_code.specs.Tree as code
use Rattle.script_code.specs.Tree.{Term, CallTarget, Wanted, Operation, Code, followed, end, act, choice, loop}
use Rattle.script_compiler.specs.Plan.{PlanView, executor_at, actor_place_of}

-- whether what a name means is a number
abbrev pub is_number : NameKind → Bool
is_number kind.Field = false
is_number kind.Number = true
is_number kind.Task = false
is_number kind.Group = false

-- whether it is a handle: a task or a group
abbrev pub is_handle : NameKind → Bool
is_handle kind.Field = false
is_handle kind.Number = false
is_handle kind.Task = true
is_handle kind.Group = true

-- how many numbers are in scope: the place of the next one
abbrev pub numbers_in : ScopeView → ℕ
numbers_in s = count_by is_number s.kinds

-- how many handles are in scope: the place of the next one
abbrev pub handles_in : ScopeView → ℕ
handles_in s = count_by is_handle s.kinds

-- the place of a number among the numbers in scope, the oldest first
abbrev pub number_place : ScopeView → List ℕ → ℕ
number_place s name = count_by is_number (take (place_of s.names name) s.kinds)

-- the place of a handle among the handles in scope, the oldest first
abbrev pub handle_place : ScopeView → List ℕ → ℕ
handle_place s name = count_by is_handle (take (place_of s.names name) s.kinds)

-- the place of a field: that of its actor among the actors of its executor, and its own in the actor
abbrev pub field_place : PlanView → ScopeView → List ℕ → FieldPlace
field_place p s name = record { actor = actor_place_of p s.actor; field = place_of (fields_at s.directory s.actor) name }

-- the place that a name stands for: the field of that name, or else the variable
unfoldable pub place_named : PlanView → ScopeView → List ℕ → NumberPlace
place_named p s name = if is_among (fields_at s.directory s.actor) name then Field (field_place p s name) else Variable (number_place s name)

-- what a place holds
abbrev pub term_at : NumberPlace → Term
term_at (Variable k) = code.variable k
term_at (Field f) = code.field f

-- the default of a task local
unfoldable pub default_of : PlanView → List ℕ → ℤ
default_of p name = unwrap_or (slice_get p.defaults (place_of p.directory.locals name)) (pos 0)

-- an expression, with places for its names
abbrev pub lowered : PlanView → ScopeView → ExprTree → Term
lowered p s (Number n) = code.number n
lowered p s (Named name) = term_at (place_named p s name)
lowered p s (Local name) = code.local (place_of p.directory.locals name) (default_of p name)
lowered p s OwnPriority = code.priority
lowered p s IsCancelled = code.cancelled
lowered p s (Negated a) = code.opposite (lowered p s a)
lowered p s (Inverted a) = code.denial (lowered p s a)
lowered p s (Both o a b) = code.binary o (lowered p s a) (lowered p s b)

-- an expression with places for names, where there is one
abbrev pub lowered_if : PlanView → ScopeView → Option ExprTree → Option Term
lowered_if p s None = None
lowered_if p s (Some t) = Some (lowered p s t)

-- a call, by the numbers of its actor and method
abbrev pub target_of : PlanView → ScopeView → CallTree → CallTarget
target_of p s c = record { actor = place_of s.directory.actors c.actor; method = method_place s.directory c.actor c.method; args = map (lowered p s) c.args }

-- A name after `task` is the task variable of that name, or else the root.
abbrev pub task_named : ScopeView → List ℕ → Option NameKind → Wanted
task_named s name (Some kind.Task) = code.task (handle_place s name)
task_named s name _ = code.root (place_of s.directory.roots name)

-- what is waited for, with numbers for names
abbrev pub wanted_of : PlanView → ScopeView → AwaitedTree → Wanted
wanted_of p s (Called c) = code.call (target_of p s c)
wanted_of p s (TaskOf name) = task_named s name (meaning_of s name)
wanted_of p s (NextOf name) = code.next (handle_place s name)

-- A wait ends the turn, and what is given goes to a place, if there is one.
abbrev pub wait_to : PlanView → ScopeView → Option NumberPlace → WaitTree → Code
wait_to p s place w = act (code.wait (wanted_of p s w.for)) (act (code.receive place (lowered_if p s w.other)) end)

-- what is set to an expression: a variable or a field
abbrev pub set_at : NumberPlace → Term → Operation
set_at (Variable k) t = code.set_variable k t
set_at (Field f) t = code.set_field f t

-- a value is set to a place: that of an expression at once, or what a wait gives
abbrev pub value_to : PlanView → ScopeView → NumberPlace → ValueTree → Code
value_to p s place (Computed t) = act (set_at place (lowered p s t)) end
value_to p s place (Waited w) = wait_to p s (Some place) w

-- a task that is made, whose number goes to a handle, if there is one
abbrev pub make_to : PlanView → ScopeView → Option ℕ → MakeTree → Operation
make_to p s handle (Spawned c priority) = code.spawn (target_of p s c) priority handle
make_to p s handle (Detached c priority) = code.detach (target_of p s c) priority handle

-- A name after `cancel` is the task variable or the group of that name, or else the root.
abbrev pub cancelled_named : ScopeView → List ℕ → Option NameKind → Cancelled
cancelled_named s name (Some kind.Task) = cancelled_one.Task (handle_place s name)
cancelled_named s name (Some kind.Group) = cancelled_one.Group (handle_place s name)
cancelled_named s name _ = cancelled_one.Root (record { 0 = place_of s.directory.roots name })

-- a statement without a block
abbrev pub action_code : PlanView → ScopeView → ActionTree → Code
action_code p s (Let name v) = value_to p s (Variable (numbers_in s)) v
action_code p s (LetTask name m) = act (make_to p s (Some (handles_in s)) m) end
action_code p s (Assign name v) = value_to p s (place_named p s name) v
action_code p s (Await w) = wait_to p s None w
action_code p s (Makes m) = act (make_to p s None m) end
action_code p s (Adds a) = act (code.add (handle_place s a.group) a.unless (target_of p s a.call) a.priority) end
action_code p s (Cancel name) = act (code.cancel (cancelled_named s name (meaning_of s name))) end
action_code p s (Return t) = act (code.return (lowered p s t)) end
action_code p s (Throw t) = act (code.throw (lowered p s t)) end
action_code p s Check = act code.check end
action_code p s Yield = act code.yield end

-- a block with its head, where `inner` is the code of the block; an `assume` of an actor of another executor is a fault
abbrev pub headed_code : PlanView → ScopeView → HeadTree → Code → Code
headed_code p s (If t) inner = choice (lowered p s t) inner end end
headed_code p s (While t) inner = loop (lowered p s t) inner end
headed_code p s (Bind name t) inner = act (code.bind (place_of p.directory.locals name) (lowered p s t)) (followed inner (act code.unbind end))
headed_code p s (Group name) inner = act (code.open_group (handles_in s)) (followed inner (act code.close_group end))
headed_code p s (Assume name) inner =
    if executor_at p (place_of s.directory.actors name) == executor_at p s.actor then act code.assume inner
    else act code.isolated end

abbrev mutual
  -- the code of a statement, where `s` is the scope before it: the block of a head is in the scope within that head
  pub stmt_code : PlanView → ScopeView → StmtTree → Code
  stmt_code p s (Do a) = action_code p s a
  stmt_code p s (Headed h b) = headed_code p s h (block_code p (scope_within s h) b)
  stmt_code p s (IfElse t a b) = choice (lowered p s t) (block_code p s a) (block_code p s b) end

  -- the statements of a block, one after the other
  pub block_code : PlanView → ScopeView → BlockTree → Code
  block_code p s nothing = end
  block_code p s (first_then x xs) = followed (stmt_code p s x) (block_code p (scope_after s x) xs)
