-- What one declaration more is compiled to. No public clause names these words.
use Rattle.std.specs.Prelude.{◌≡◌, ℕ, List, ◌++◌, map}
use Rattle.std.specs.List.{AllZip}
use Rattle.script_printing.specs.Script.{ScriptView}
use Rattle.script_compiler.specs.declared.lowering.declaration.Parts.{Parts}
use Rattle.script_compiler.specs.Plan.{PlanView}
use Rattle.script_compiler.specs.Compiled.{MethodView, root_of, actors_from, methods_from}
use Rattle.script_compiler.specs.IsCompiled.{local_view, actor_view, root_view, IsMethod}

-- What these declarations are compiled to, the first actor with number k, goes after what was there.
pub record ArePartsAfter (p : PlanView) (k : ℕ) (tree : ScriptView) (old new : Parts) : Type 0 where
  pub locals : map local_view new.locals.items ≡ map local_view old.locals.items ++ tree.locals
  pub actors : map actor_view new.actors.items ≡ map actor_view old.actors.items ++ actors_from p k tree.actors
  pub methods : (done : List MethodView) → AllZip IsMethod old.methods.items done → AllZip IsMethod new.methods.items (done ++ methods_from p k tree.actors)
  pub roots : map root_view new.roots.items ≡ map root_view old.roots.items ++ map (root_of p) tree.roots
