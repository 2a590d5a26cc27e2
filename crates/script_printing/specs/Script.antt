-- The declarations of a script, by their kinds.
use Rattle.std.specs.Prelude.{List, [], ◌∷◌, ◌++◌, map}
use Rattle.script_grammar.specs.Tree.{ExecutorTree, LocalTree, ActorTree, RootTree, DeclTree, Executes, Binds, Acts, Roots}

-- A script has executors, task locals, actors and roots, each kind in text order.
pub record ScriptView : Type 0 where
  pub executors : List ExecutorTree
  pub locals : List LocalTree
  pub actors : List ActorTree
  pub roots : List RootTree

-- the declarations of a script: its executors, then its locals, then its actors, and then its roots
abbrev pub declarations_of : ScriptView → List DeclTree
declarations_of s = map Executes s.executors ++ (map Binds s.locals ++ (map Acts s.actors ++ map Roots s.roots))

-- a declaration in front of the others of its kind
abbrev pub with_decl : DeclTree → ScriptView → ScriptView
with_decl (Executes x) s = record s { executors = x ∷ s.executors }
with_decl (Binds l) s = record s { locals = l ∷ s.locals }
with_decl (Acts a) s = record s { actors = a ∷ s.actors }
with_decl (Roots r) s = record s { roots = r ∷ s.roots }

-- the script that declarations make up, which keeps the order within each kind
abbrev pub script_in : List DeclTree → ScriptView
script_in [] = record { executors = []; locals = []; actors = []; roots = [] }
script_in (d ∷ ds) = with_decl d (script_in ds)
