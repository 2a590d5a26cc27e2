-- The text of a Swift program: its actors with their methods, in order. (Own.)
use Rattle.std.specs.Prelude.{ℕ, List, [], ◌∷◌, ◌++◌, codes, map}
use Rattle.std.specs.List.{flat_map}
use Rattle.swift_programs.specs.declared.program.SwiftMethod.{SwiftMethod}
use Rattle.swift_programs.specs.declared.program.SwiftActor.{SwiftActor}
use Rattle.swift_programs.specs.declared.program.SwiftProgram.{SwiftProgram}

-- a parameter, which has no label
abbrev pub param_text : List ℕ → List ℕ
param_text p = codes "_ " ++ (p ++ codes ": Int64")

-- a parameter after another one
abbrev pub next_param_text : List ℕ → List ℕ
next_param_text p = codes ", _ " ++ (p ++ codes ": Int64")

-- parameters with commas between them
abbrev pub params_text : List (List ℕ) → List ℕ
params_text [] = []
params_text (p ∷ ps) = param_text p ++ flat_map next_param_text ps

-- a method, with its name, its parameters and its body
abbrev pub method_text : SwiftMethod → List ℕ
method_text m =
    codes "\n    func " ++ (m.name.items ++ (codes "(" ++ (params_text (map (λ p. p.items) m.params.items) ++ (codes ") async throws -> Int64 {\n" ++ (m.body.items ++ codes "    }\n")))))

-- an actor, with its name, what stands before its methods, and these
abbrev pub actor_text : SwiftActor → List ℕ
actor_text a =
    codes "@globalActor actor " ++ (a.name.items ++ (codes " {\n" ++ (a.members.items ++ (flat_map method_text a.methods.items ++ codes "}\n\n"))))

-- a program: what stands before its actors, these, and what stands after them
abbrev pub program_text : SwiftProgram → List ℕ
program_text p = p.head.items ++ (flat_map actor_text p.actors.items ++ p.tail.items)
