-- What a script keeps: a text of its tree was accepted, and it has the printed form of its tree and what that is
-- compiled to.
use Rattle.std.specs.Prelude.{◌≡◌, ℕ, List, [], ◌∷◌, ◌++◌, map}
use Rattle.script_grammar.specs.Tree.{DeclTree, Executes, Binds, Acts, Roots, view_executor, view_local, view_actor, view_root}
use Rattle.script_printing.specs.Script.{ScriptView}
use Rattle.script_printing.specs.Printed.{printed}
use Rattle.script_compiler.specs.declared.compiled.Compiled.{Compiled}
use Rattle.script_compiler.specs.IsCompiled.{IsCompiled}
use Rattle.swift_script.specs.declared.split.Declarations.{Declarations}
use Rattle.swift_script.specs.Scripts.{parts_of}
use Rattle.swift_script.specs.Accepted.{WasAccepted}

-- the tree of declarations, without where they lie in memory
abbrev pub tree_of : Declarations → ScriptView
tree_of d = record {
  executors = map view_executor d.executors.items;
  locals = map view_local d.locals.items;
  actors = map view_actor d.actors.items;
  roots = map view_root d.roots.items;
}

-- a declaration after the others of its kind
abbrev pub with_last : DeclTree → ScriptView → ScriptView
with_last (Executes x) s = record s { executors = s.executors ++ x ∷ [] }
with_last (Binds l) s = record s { locals = s.locals ++ l ∷ [] }
with_last (Acts a) s = record s { actors = s.actors ++ a ∷ [] }
with_last (Roots r) s = record s { roots = s.roots ++ r ∷ [] }

pub record ScriptInvariant (tree : ScriptView) (text : List ℕ) (c : Compiled) : Type 0 where
  pub accepted : WasAccepted tree
  pub has_printed : text ≡ printed tree
  pub has_parts : IsCompiled c (parts_of tree)
