-- What callers see of a script. Its value is its tree, and what it is compiled to is a function of that. A thing that a
-- script lacks has no name and nothing in it.
use Rattle.std.specs.Prelude.{ℕ, ℤ, Option, None, List, [], map, length, slice_get, unwrap_or}
use Rattle.swift_types.specs.declared.priority.Priority.{Priority}
use Rattle.swift_types.specs.declared.priority.Priority.TheVariants.{Medium}
use Rattle.swift_types.specs.declared.executor_kind.ExecutorKind.{ExecutorKind}
use Rattle.swift_types.specs.declared.executor_kind.ExecutorKind.TheVariants as kind
use Rattle.script_grammar.specs.Tree.{LocalTree, FieldTree}
use Rattle.script_code.specs.Tree.{Term, Code, end}
pub use Rattle.script_printing.specs.Script.{ScriptView}
use Rattle.script_compiler.specs.Compiled.{ExecutorView, ActorView, MethodView, RootView, CompiledView, compiled_of, executor_invariants as invariants_of_executor}
use Rattle.script_compiler.specs.Starts.{starts_at}

-- what a script is compiled to: its executors, task locals, actors, methods and roots, each by its number
unfoldable pub parts_of : ScriptView → CompiledView
parts_of s = compiled_of s

-- what stands for an executor that a script lacks
abbrev pub no_executor : ExecutorView
no_executor = record { name = []; kind = kind.Priority; actors = [] }

-- what stands for a task local that a script lacks
abbrev pub no_local : LocalTree
no_local = record { name = []; default = ℤ.pos 0 }

-- what stands for a field that an actor lacks
abbrev pub no_field : FieldTree
no_field = record { name = []; start = ℤ.pos 0 }

-- what stands for an actor that a script lacks
abbrev pub no_actor : ActorView
no_actor = record { name = []; executor = 0; fields = []; invariant = None }

-- what stands for a method that a script lacks
abbrev pub no_method : MethodView
no_method = record { name = []; actor = 0; params = 0; numbers = 0; handles = 0; code = end }

-- what stands for a root that a script lacks
abbrev pub no_root : RootView
no_root = record { name = []; method = 0; args = []; priority = Medium }

-- the executor of this number
abbrev pub executor_at : ScriptView → ℕ → ExecutorView
executor_at s e = unwrap_or (slice_get (parts_of s).executors e) no_executor

-- the task local of this number
abbrev pub local_at : ScriptView → ℕ → LocalTree
local_at s l = unwrap_or (slice_get (parts_of s).locals l) no_local

-- the actor of this number
abbrev pub actor_at : ScriptView → ℕ → ActorView
actor_at s a = unwrap_or (slice_get (parts_of s).actors a) no_actor

-- the method of this number, among all of the script
abbrev pub method_at : ScriptView → ℕ → MethodView
method_at s m = unwrap_or (slice_get (parts_of s).methods m) no_method

-- the root of this number
abbrev pub root_at : ScriptView → ℕ → RootView
root_at s r = unwrap_or (slice_get (parts_of s).roots r) no_root

-- how many executors there are: the declared ones first, and then those that actors have of their own
abbrev pub executor_count : ScriptView → ℕ
executor_count s = length (parts_of s).executors

-- the name of an executor: for an actor's own, that of the actor
abbrev pub executor_name : ScriptView → ℕ → List ℕ
executor_name s e = (executor_at s e).name

-- how it takes its jobs
abbrev pub executor_kind : ScriptView → ℕ → ExecutorKind
executor_kind s e = (executor_at s e).kind

-- the actors that run on it, in text order
abbrev pub executor_actors : ScriptView → ℕ → List ℕ
executor_actors s e = (executor_at s e).actors

-- the invariants of those of them that have one
abbrev pub executor_invariants : ScriptView → ℕ → List Term
executor_invariants s e = invariants_of_executor (parts_of s) e

-- what the fields of its actors start with, a list for each actor
abbrev pub executor_start : ScriptView → ℕ → List (List ℤ)
executor_start s e = starts_at (parts_of s) e

-- the name of a task local
abbrev pub local_name : ScriptView → ℕ → List ℕ
local_name s l = (local_at s l).name

-- how many actors a script has
abbrev pub actor_count : ScriptView → ℕ
actor_count s = length (parts_of s).actors

-- the name of an actor
abbrev pub actor_name : ScriptView → ℕ → List ℕ
actor_name s a = (actor_at s a).name

-- the executor that an actor runs on
abbrev pub actor_executor : ScriptView → ℕ → ℕ
actor_executor s a = (actor_at s a).executor

-- its fields, with what they start with
abbrev pub actor_fields : ScriptView → ℕ → List FieldTree
actor_fields s a = (actor_at s a).fields

-- the field of an actor at a place
abbrev pub field_at : ScriptView → ℕ → ℕ → FieldTree
field_at s a f = unwrap_or (slice_get (actor_fields s a) f) no_field

-- the name of the field of an actor at a place
abbrev pub field_name : ScriptView → ℕ → ℕ → List ℕ
field_name s a f = (field_at s a f).name

-- what its fields start with
abbrev pub actor_start : ScriptView → ℕ → List ℤ
actor_start s a = map (λ f. f.start) (actor_fields s a)

-- its invariant, with places for names
abbrev pub actor_invariant : ScriptView → ℕ → Option Term
actor_invariant s a = (actor_at s a).invariant

-- how many methods there are: those of the first actor in text order, then those of the next
abbrev pub method_count : ScriptView → ℕ
method_count s = length (parts_of s).methods

-- the name of a method
abbrev pub method_name : ScriptView → ℕ → List ℕ
method_name s m = (method_at s m).name

-- the actor that a method is of
abbrev pub method_actor : ScriptView → ℕ → ℕ
method_actor s m = (method_at s m).actor

-- how many parameters it has: the first of its numbers
abbrev pub method_params : ScriptView → ℕ → ℕ
method_params s m = (method_at s m).params

-- how many numbers a frame of it has: parameters and variables
abbrev pub method_numbers : ScriptView → ℕ → ℕ
method_numbers s m = (method_at s m).numbers

-- how many handles a frame of it has: task variables and groups
abbrev pub method_handles : ScriptView → ℕ → ℕ
method_handles s m = (method_at s m).handles

-- its statements, with places for names
abbrev pub method_code : ScriptView → ℕ → Code
method_code s m = (method_at s m).code

-- how many roots a script has
abbrev pub root_count : ScriptView → ℕ
root_count s = length (parts_of s).roots

-- the name of a root
abbrev pub root_name : ScriptView → ℕ → List ℕ
root_name s r = (root_at s r).name

-- the method that a root runs
abbrev pub root_method : ScriptView → ℕ → ℕ
root_method s r = (root_at s r).method

-- the arguments of a root
abbrev pub root_args : ScriptView → ℕ → List ℤ
root_args s r = (root_at s r).args

-- the priority of a root
abbrev pub root_priority : ScriptView → ℕ → Priority
root_priority s r = (root_at s r).priority
