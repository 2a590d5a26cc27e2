-- What a program has to have of a script: an actor for each actor, and a method for each method, in order. (Own.)
use Rattle.std.specs.Prelude.{ℕ, List, [], ◌∷◌, map}
use Rattle.std.specs.List.{flat_map}
use Rattle.script_grammar.specs.Tree.{DeclTree, Executes, Binds, Acts, Roots, ActorTree, MethodTree}
use Rattle.swift_programs.specs.declared.program.SwiftMethod.{SwiftMethod}
use Rattle.swift_programs.specs.declared.program.SwiftActor.{SwiftActor}
use Rattle.swift_programs.specs.declared.program.SwiftProgram.{SwiftProgram}
use Rattle.swift_programs.specs.Names.{type_name, value_name, method_name}

-- A method has a name, and the names of its parameters.
pub record MethodOutline : Type 0 where
  pub name : List ℕ
  pub params : List (List ℕ)

-- An actor has a name, and methods.
pub record ActorOutline : Type 0 where
  pub name : List ℕ
  pub methods : List MethodOutline

-- a method of a program
abbrev pub method_in : SwiftMethod → MethodOutline
method_in m = record { name = m.name.items; params = map (λ p. p.items) m.params.items }

-- an actor of a program
abbrev pub actor_in : SwiftActor → ActorOutline
actor_in a = record { name = a.name.items; methods = map method_in a.methods.items }

-- the actors of a program
abbrev pub outline : SwiftProgram → List ActorOutline
outline p = map actor_in p.actors.items

-- the method that there has to be for one of the script
abbrev pub method_for : ActorTree → MethodTree → MethodOutline
method_for a m = record { name = method_name a m.name; params = map value_name m.params }

-- the actor that there has to be for one of the script
abbrev pub actor_for : ActorTree → ActorOutline
actor_for a = record { name = type_name a.name; methods = map (method_for a) a.methods }

-- those that there have to be for a declaration
abbrev pub actors_for : DeclTree → List ActorOutline
actors_for (Executes x) = []
actors_for (Binds l) = []
actors_for (Acts a) = actor_for a ∷ []
actors_for (Roots r) = []

-- the actors that a program has to have, for the declarations of a script
abbrev pub wanted : List DeclTree → List ActorOutline
wanted ds = flat_map actors_for ds
