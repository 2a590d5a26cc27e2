-- Which methods throw: those whose bodies throw by these. (Own.)
use Rattle.std.specs.Prelude.{◌&&◌, ◌||◌, ℕ, Bool, true, not, List, [], ◌∷◌}
use Rattle.script_grammar.specs.Tree.{MethodTree, DeclTree, Executes, Binds, Acts, Roots}
use Rattle.swift_plain.specs.Signatures.{ThrowerTree, body_throws, method_throws}

-- whether one of two holds exactly where the other does
abbrev pub agree : Bool → Bool → Bool
agree a b = (a && b) || (not a && not b)

-- whether a method is among these exactly where its body throws by them
abbrev pub is_told : List ThrowerTree → List ℕ → MethodTree → Bool
is_told ts a m = agree (method_throws ts a m.name) (body_throws ts m)

-- whether it is so of each method of an actor
abbrev pub methods_are_told : List ThrowerTree → List ℕ → List MethodTree → Bool
methods_are_told ts a [] = true
methods_are_told ts a (m ∷ ms) = is_told ts a m && methods_are_told ts a ms

-- whether it is so of each method of a declaration
abbrev pub decl_is_told : List ThrowerTree → DeclTree → Bool
decl_is_told ts (Executes x) = true
decl_is_told ts (Binds l) = true
decl_is_told ts (Acts a) = methods_are_told ts a.name a.methods
decl_is_told ts (Roots r) = true

-- whether it is so of each method of a script
abbrev pub are_told : List ThrowerTree → List DeclTree → Bool
are_told ts [] = true
are_told ts (x ∷ xs) = decl_is_told ts x && are_told ts xs
