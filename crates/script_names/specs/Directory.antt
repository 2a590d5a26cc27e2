-- What a script declares, wherever in the text. Of two of one name, the first one counts.
use Rattle.std.specs.Prelude.{ℕ, ◌+◌, Bool, ◌&&◌, List, [], ◌∷◌, ◌++◌, length, map, slice_get, unwrap_or, if◌then◌else◌}
use Rattle.script_grammar.specs.Tree.{FieldTree, MethodTree, ActorTree, DeclTree, Executes, Binds, Acts, Roots}
use Rattle.script_names.specs.Texts.{is_among, place_of, with_name}
use Rattle.script_names.specs.Methods.{method_key}

-- the executors, task locals and roots; the actors and the fields of each; the keys of the actors' methods, and how many
-- parameters each method has
pub record DirectoryView : Type 0 where
  pub executors : List (List ℕ)
  pub locals : List (List ℕ)
  pub roots : List (List ℕ)
  pub actors : List (List ℕ)
  pub fields : List (List (List ℕ))
  pub methods : List (List ℕ)
  pub params : List ℕ

-- the key of an actor's method
abbrev pub key_of : DirectoryView → List ℕ → List ℕ → List ℕ
key_of d actor method = method_key (place_of d.actors actor) method

-- whether an actor is declared, and has a method of that name
abbrev pub has_method : DirectoryView → List ℕ → List ℕ → Bool
has_method d actor method = is_among d.actors actor && is_among d.methods (key_of d actor method)

-- the place of an actor's method among the methods of all actors
abbrev pub method_place : DirectoryView → List ℕ → List ℕ → ℕ
method_place d actor method = place_of d.methods (key_of d actor method)

-- how many parameters an actor's method has
abbrev pub arity_of : DirectoryView → List ℕ → List ℕ → ℕ
arity_of d actor method = unwrap_or (slice_get d.params (method_place d actor method)) 0

-- the fields of the actor at a place
abbrev pub fields_at : DirectoryView → ℕ → List (List ℕ)
fields_at d actor = unwrap_or (slice_get d.fields actor) []

-- the names of fields
abbrev pub field_names : List FieldTree → List (List ℕ)
field_names fields = map (λ f. f.name) fields

-- the names that are new, each after those before it
abbrev pub with_names : List (List ℕ) → List (List ℕ) → List (List ℕ)
with_names seen [] = seen
with_names seen (n ∷ ns) = with_names (with_name seen n) ns

-- a method of the actor at a place goes after the others; a second one of its name adds nothing
abbrev pub with_method : ℕ → MethodTree → DirectoryView → DirectoryView
with_method actor m d =
    if is_among d.methods (method_key actor m.name) then d
    else record d { methods = d.methods ++ method_key actor m.name ∷ []; params = d.params ++ length m.params ∷ [] }

-- the methods of the actor at a place go after the others, in order; a second one of a name adds nothing
abbrev pub with_methods : ℕ → List MethodTree → DirectoryView → DirectoryView
with_methods actor [] d = d
with_methods actor (m ∷ ms) d = with_methods actor ms (with_method actor m d)

-- An actor goes after the others, with its fields and methods. A second one of its name adds nothing.
abbrev pub with_actor : ActorTree → DirectoryView → DirectoryView
with_actor a d =
    if is_among d.actors a.name then d
    else with_methods (length d.actors) a.methods (record d { actors = d.actors ++ a.name ∷ []; fields = d.fields ++ with_names [] (field_names a.fields) ∷ [] })

-- a declaration adds what it declares; a second one of its name adds nothing
abbrev pub with_decl : DeclTree → DirectoryView → DirectoryView
with_decl (Executes x) d = record d { executors = with_name d.executors x.name }
with_decl (Binds l) d = record d { locals = with_name d.locals l.name }
with_decl (Acts a) d = with_actor a d
with_decl (Roots r) d = record d { roots = with_name d.roots r.name }

-- declarations add what they declare, in order
abbrev pub with_decls : List DeclTree → DirectoryView → DirectoryView
with_decls [] d = d
with_decls (x ∷ xs) d = with_decls xs (with_decl x d)

-- the directory of a script without declarations
abbrev pub nothing_declared : DirectoryView
nothing_declared = record { executors = []; locals = []; roots = []; actors = []; fields = []; methods = []; params = [] }

-- what a script declares
abbrev pub directory_of : List DeclTree → DirectoryView
directory_of decls = with_decls decls nothing_declared

-- the executors in the order of the text, each as often as it is declared
abbrev pub executors_in : List DeclTree → List (List ℕ)
executors_in [] = []
executors_in (Executes x ∷ xs) = x.name ∷ executors_in xs
executors_in (_ ∷ xs) = executors_in xs

-- the task locals
abbrev pub locals_in : List DeclTree → List (List ℕ)
locals_in [] = []
locals_in (Binds l ∷ xs) = l.name ∷ locals_in xs
locals_in (_ ∷ xs) = locals_in xs

-- the roots
abbrev pub roots_in : List DeclTree → List (List ℕ)
roots_in [] = []
roots_in (Roots r ∷ xs) = r.name ∷ roots_in xs
roots_in (_ ∷ xs) = roots_in xs

-- the actors
abbrev pub actors_in : List DeclTree → List (List ℕ)
actors_in [] = []
actors_in (Acts a ∷ xs) = a.name ∷ actors_in xs
actors_in (_ ∷ xs) = actors_in xs

-- the fields of each actor
abbrev pub fields_in : List DeclTree → List (List (List ℕ))
fields_in [] = []
fields_in (Acts a ∷ xs) = field_names a.fields ∷ fields_in xs
fields_in (_ ∷ xs) = fields_in xs

-- the keys of the methods, where the first actor has this place
abbrev pub methods_from : ℕ → List DeclTree → List (List ℕ)
methods_from actor [] = []
methods_from actor (Acts a ∷ xs) = map (λ m. method_key actor m.name) a.methods ++ methods_from (actor + 1) xs
methods_from actor (_ ∷ xs) = methods_from actor xs

-- how many parameters each method of the text has, in its order
abbrev pub params_in : List DeclTree → List ℕ
params_in [] = []
params_in (Acts a ∷ xs) = map (λ m. length m.params) a.methods ++ params_in xs
params_in (_ ∷ xs) = params_in xs

-- all that the text declares, with nothing left out
abbrev pub declared_in : List DeclTree → DirectoryView
declared_in decls = record { executors = executors_in decls; locals = locals_in decls; roots = roots_in decls; actors = actors_in decls; fields = fields_in decls; methods = methods_from 0 decls; params = params_in decls }
