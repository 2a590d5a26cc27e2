-- When what the code holds is what a script is compiled to. A method's instructions are not those of its code alone: they
-- are so laid out that following them does the code.
use Rattle.std.specs.Prelude.{◌≡◌, ℕ, List, map, All}
use Rattle.std.specs.List.{AllZip}
use Rattle.swift_types.specs.declared.id.ActorId.{ActorId}
use Rattle.script_grammar.specs.Tree.{LocalTree, FieldTree}
use Rattle.script_code.specs.Tree.{terms_of, term_if}
use Rattle.script_code.specs.Instructions.{FollowsCode}
use Rattle.script_code.specs.Layout.{code_at}
use Rattle.script_compiler.specs.declared.compiled.CompiledExecutor.{CompiledExecutor}
use Rattle.script_compiler.specs.declared.compiled.CompiledLocal.{CompiledLocal}
use Rattle.script_compiler.specs.declared.compiled.CompiledField.{CompiledField}
use Rattle.script_compiler.specs.declared.compiled.CompiledActor.{CompiledActor}
use Rattle.script_compiler.specs.declared.compiled.CompiledMethod.{CompiledMethod}
use Rattle.script_compiler.specs.declared.compiled.CompiledRoot.{CompiledRoot}
use Rattle.script_compiler.specs.declared.compiled.Compiled.{Compiled}
use Rattle.script_compiler.specs.Compiled.{ExecutorView, ActorView, MethodView, RootView, CompiledView, invariants_among}

-- an actor's number, as a number
abbrev pub actor_number : ActorId → ℕ
actor_number a = a.0

-- an executor, without its invariants
abbrev pub executor_view : CompiledExecutor → ExecutorView
executor_view x = record { name = x.name.items; kind = x.kind; actors = map actor_number x.actors.items }

-- the view of a task local of the code
abbrev pub local_view : CompiledLocal → LocalTree
local_view l = record { name = l.name.items; default = l.default }

-- the view of a field of the code
abbrev pub field_view : CompiledField → FieldTree
field_view f = record { name = f.name.items; start = f.start }

-- the view of an actor of the code
abbrev pub actor_view : CompiledActor → ActorView
actor_view a = record { name = a.name.items; executor = a.executor.0; fields = map field_view a.fields.items; invariant = term_if a.invariant }

-- the view of a root of the code
abbrev pub root_view : CompiledRoot → RootView
root_view r = record { name = r.name.items; method = r.method.0; args = r.args.items; priority = r.priority }

-- A method has these parts, and to follow its instructions from instruction 0 on is to do its code.
pub record IsMethod (m : CompiledMethod) (v : MethodView) : Type 0 where
  pub name : m.name.items ≡ v.name
  pub actor : m.actor.0 ≡ v.actor
  pub params : m.params ≡ v.params
  pub numbers : m.numbers ≡ v.numbers
  pub handles : m.handles ≡ v.handles
  pub stands : FollowsCode m.instructions.items v.code (code_at v.code)

-- An executor has the invariants of its actors.
abbrev pub HasInvariants : List ActorView → CompiledExecutor → Type 0
HasInvariants actors x = terms_of x.invariants.items ≡ invariants_among actors (map actor_number x.actors.items)

-- Each part is that of the view.
pub record IsCompiled (c : Compiled) (v : CompiledView) : Type 0 where
  pub executors : map executor_view c.executors.items ≡ v.executors
  pub invariants : All (HasInvariants v.actors) c.executors.items
  pub locals : map local_view c.locals.items ≡ v.locals
  pub actors : map actor_view c.actors.items ≡ v.actors
  pub methods : AllZip IsMethod c.methods.items v.methods
  pub roots : map root_view c.roots.items ≡ v.roots
