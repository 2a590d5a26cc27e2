-- Expressions in words, as bytes: as the printed form has them, with each use of an operator in a parenthesis.
use Rattle.std.specs.Prelude.{ℕ, ◌==◌, List, [], ◌∷◌, ◌++◌, codes, decimal, if◌then◌else◌, slice_get, unwrap_or}
use Rattle.std.specs.Fmt.{signed_decimal}
use Rattle.swift_types.specs.declared.operator.Operator.{Operator}
use Rattle.script_code.specs.Tree.{Term, number, variable, field, local, priority, cancelled, opposite, denial, binary}
use Rattle.script_code.specs.declared.formula.FieldPlace.{FieldPlace}
use Rattle.script_grammar.specs.Grammar.{mark_of}
use Rattle.script_tokens.specs.Spelling.{mark_spelling}
use Rattle.swift_script.specs.Scripts.{ScriptView, actor_name, field_name, local_name}
use Rattle.nuchapay_runs.specs.Notes.{actor_at}

-- what names are found by: the script, the executor and the actor, and the names of the first variables, empty where none is known
pub record NamesView : Type 0 where
  pub script : ScriptView
  pub executor : ℕ
  pub actor : ℕ
  pub variables : List (List ℕ)

-- a name, or a variable's number where that is empty
abbrev pub name_or_number : ℕ → List ℕ → List ℕ
name_or_number k [] = codes "variable " ++ decimal k
name_or_number k (x ∷ xs) = x ∷ xs

-- a variable of the frame: its name where it has one, else its number
abbrev pub variable_text : NamesView → ℕ → List ℕ
variable_text ns k = name_or_number k (unwrap_or (slice_get ns.variables k) [])

-- what stands in front of a field of this actor: nothing where the names are of that actor
abbrev pub owner_text : NamesView → ℕ → List ℕ
owner_text ns a = if a == ns.actor then [] else actor_name ns.script a ++ codes "."

-- a field of the actor at a place of the executor
abbrev pub field_text : NamesView → FieldPlace → List ℕ
field_text ns f = owner_text ns (actor_at ns.script ns.executor f.actor) ++ field_name ns.script (actor_at ns.script ns.executor f.actor) f.field

-- an operator between two operands
abbrev pub operator_text : Operator → List ℕ
operator_text o = mark_spelling (mark_of o)

-- an expression
abbrev pub formula_text : NamesView → Term → List ℕ
formula_text ns (number n) = signed_decimal n
formula_text ns (variable x) = variable_text ns x
formula_text ns (field f) = field_text ns f
formula_text ns (local l default) = codes "@ " ++ local_name ns.script l
formula_text ns priority = codes "priority"
formula_text ns cancelled = codes "cancelled"
formula_text ns (opposite t) = codes "( - " ++ formula_text ns t ++ codes " )"
formula_text ns (denial t) = codes "( ! " ++ formula_text ns t ++ codes " )"
formula_text ns (binary o a b) = codes "( " ++ formula_text ns a ++ codes " " ++ operator_text o ++ codes " " ++ formula_text ns b ++ codes " )"
