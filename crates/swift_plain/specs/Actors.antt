-- Actors, with their fields, invariants and methods, and their instances. (Own.)
use Rattle.std.specs.Prelude.{◌&&◌, ◌++◌, ℕ, Bool, false, not, List, [], ◌∷◌, codes, Option, Some, None}
use Rattle.std.specs.Fmt.{signed_decimal}
use Rattle.script_grammar.specs.Tree.{ExprTree, DeclTree, FieldTree, MethodTree, ActorTree, block_tree}
use Rattle.plain_parts.specs.Expressions.{as_test, expr_bytes}
use Rattle.plain_parts.specs.Flow.{ends}
use Rattle.plain_parts.specs.Names.{instance_name, method_name, type_name, value_name}
use Rattle.plain_parts.specs.Pages.{line_text}
use Rattle.swift_plain.specs.Calls.{either}
use Rattle.swift_plain.specs.Places.{PlaceTree}
use Rattle.swift_plain.specs.Signatures.{ThrowerTree, gives_number, method_throws}
use Rattle.swift_plain.specs.Statements.{block_text}

-- the start value of a field, and the end of its line
unfoldable pub start_text : FieldTree → List ℕ
start_text f = codes " = " ++ (signed_decimal f.start ++ codes "\n")

-- a field, which other actors read and do not set
unfoldable pub field_text : List DeclTree → FieldTree → List ℕ
field_text ds f = codes "    private(set) var " ++ (value_name ds f.name ++ start_text f)

-- the fields of an actor
abbrev pub fields_text : List DeclTree → List FieldTree → List ℕ
fields_text ds [] = []
fields_text ds (f ∷ fs) = field_text ds f ++ fields_text ds fs

-- what has to hold of an actor
unfoldable pub required_text : List DeclTree → ExprTree → List ℕ
required_text ds e = codes "    // invariant: " ++ (expr_bytes (value_name ds) (as_test e) 5 ++ codes "\n")

-- the same, if there is something
abbrev pub invariant_text : List DeclTree → Option ExprTree → List ℕ
invariant_text ds None = []
invariant_text ds (Some e) = required_text ds e

-- a parameter, which has no label
unfoldable pub param_text : List DeclTree → List ℕ → List ℕ
param_text ds w = codes "_ " ++ (value_name ds w ++ codes ": Int")

-- parameters behind others
abbrev pub more_params : List DeclTree → List (List ℕ) → List ℕ
more_params ds [] = []
more_params ds (w ∷ ws) = codes ", " ++ (param_text ds w ++ more_params ds ws)

-- all parameters
abbrev pub params_text : List DeclTree → List (List ℕ) → List ℕ
params_text ds [] = []
params_text ds (w ∷ ws) = param_text ds w ++ more_params ds ws

-- the words behind the parameters of a method, and its brace
abbrev pub words_text : Bool → Bool → List ℕ
words_text t n = codes ") async" ++ (either t (codes " throws") [] ++ (either n (codes " -> Int") [] ++ codes " {\n"))

-- a method that is to give a number gives 0 at its end
abbrev pub last_text : Bool → List ℕ
last_text b = either b (line_text 2 (codes "return 0")) []

-- what stands before the body of a method
abbrev pub head_text : List DeclTree → List ThrowerTree → List ℕ → MethodTree → List ℕ
head_text ds ts a m = codes "\n    func " ++ (method_name ds a m.name ++ (codes "(" ++ (params_text ds m.params ++ words_text (method_throws ts a m.name) (gives_number ds a m.name))))

-- what a statement of a method stands in, outside of groups
abbrev pub place_in : List DeclTree → List ThrowerTree → MethodTree → PlaceTree
place_in ds ts m = record { decls = ds; throwers = ts; params = m.params; body = block_tree m.body; group = []; group_throws = false }

-- the statements of a method
abbrev pub body_text : List DeclTree → List ThrowerTree → MethodTree → List ℕ
body_text ds ts m = block_text (block_tree m.body) (place_in ds ts m) 2 0

-- a method
unfoldable pub method_text : List DeclTree → List ThrowerTree → List ℕ → MethodTree → List ℕ
method_text ds ts a m = head_text ds ts a m ++ (body_text ds ts m ++ (last_text (gives_number ds a m.name && not (ends (block_tree m.body))) ++ codes "    }\n"))

-- the methods of an actor
abbrev pub methods_text : List DeclTree → List ThrowerTree → List ℕ → List MethodTree → List ℕ
methods_text ds ts a [] = []
methods_text ds ts a (m ∷ ms) = method_text ds ts a m ++ methods_text ds ts a ms

-- an actor, by its type
abbrev pub actor_text : List DeclTree → List ThrowerTree → ActorTree → List ℕ
actor_text ds ts a = codes "actor " ++ (type_name a.name ++ (codes " {\n" ++ (fields_text ds a.fields ++ (invariant_text ds a.invariant ++ (methods_text ds ts a.name a.methods ++ codes "}\n\n")))))

-- the instance of an actor
abbrev pub instance_text : List ℕ → List ℕ
instance_text w = codes "let " ++ (instance_name w ++ (codes " = " ++ (type_name w ++ codes "()\n")))
