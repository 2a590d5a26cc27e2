-- Parts of a script behind references. No public clause names these words.
use Rattle.std.specs.Prelude.{Option, Some, None}
use denote.Bor.{Bor}
use Rattle.script_grammar.specs.Tree.{LocalTree, FieldTree}
use Rattle.script_compiler.specs.Compiled.{ExecutorView, ActorView, RootView}
use Rattle.script_compiler.specs.IsCompiled.{executor_view, local_view, field_view, actor_view, root_view}
use Rattle.script_compiler.specs.declared.compiled.CompiledExecutor.{CompiledExecutor}
use Rattle.script_compiler.specs.declared.compiled.CompiledLocal.{CompiledLocal}
use Rattle.script_compiler.specs.declared.compiled.CompiledField.{CompiledField}
use Rattle.script_compiler.specs.declared.compiled.CompiledActor.{CompiledActor}
use Rattle.script_compiler.specs.declared.compiled.CompiledRoot.{CompiledRoot}
use Rattle.swift_script.specs.Scripts.{no_executor, no_local, no_field, no_actor, no_root}

-- the view of an executor behind a reference, where there is one
abbrev pub executor_lent : Option (Bor CompiledExecutor) → ExecutorView
executor_lent None = no_executor
executor_lent (Some x) = executor_view x.now

-- the view of a task local behind a reference, where there is one
abbrev pub local_lent : Option (Bor CompiledLocal) → LocalTree
local_lent None = no_local
local_lent (Some l) = local_view l.now

-- the view of a field behind a reference, where there is one
abbrev pub field_lent : Option (Bor CompiledField) → FieldTree
field_lent None = no_field
field_lent (Some f) = field_view f.now

-- the view of an actor behind a reference, where there is one
abbrev pub actor_lent : Option (Bor CompiledActor) → ActorView
actor_lent None = no_actor
actor_lent (Some a) = actor_view a.now

-- the view of a root behind a reference, where there is one
abbrev pub root_lent : Option (Bor CompiledRoot) → RootView
root_lent None = no_root
root_lent (Some r) = root_view r.now
