-- Which invariant a turn would have left false, as bytes (our own).
use Rattle.std.specs.Prelude.{ℕ, ◌==◌, ℤ, Bool, true, false, if◌then◌else◌, Option, Some, None, List, [], ◌∷◌, ◌++◌, codes}
use Rattle.std.specs.Fmt.{signed_decimal}
use Rattle.script_code.specs.Tree.{Term, field, opposite, denial, binary}
use Rattle.script_code.specs.Value.{field_at}
use Rattle.script_code.specs.declared.formula.FieldPlace.{FieldPlace}
use Rattle.swift_script.specs.Scripts.{ScriptView, actor_invariant, actor_name, field_name}
use Rattle.nuchapay_runs.specs.Notes.{actor_at}
use Rattle.nuchapay_runs.specs.Formulas.{NamesView, formula_text}
use Rattle.run_pictures.specs.declared.values.change.Change.{Change}

-- an actor and its invariant, if it has one
abbrev pub with_owner : ℕ → Option Term → List (ℕ × Term)
with_owner a None = []
with_owner a (Some t) = (a, t) ∷ []

-- the invariants of actors, each with its actor, in order
abbrev pub invariants_among : ScriptView → List ℕ → List (ℕ × Term)
invariants_among p [] = []
invariants_among p (a ∷ actors) = with_owner a (actor_invariant p a) ++ invariants_among p actors

-- two places are those of the same field
abbrev pub is_same_field : FieldPlace → FieldPlace → Bool
is_same_field f g = if f.actor == g.actor then f.field == g.field else false

-- a field is among these
abbrev pub has_field : List FieldPlace → FieldPlace → Bool
has_field [] f = false
has_field (g ∷ gs) f = if is_same_field g f then true else has_field gs f

-- these fields, and then those that an expression reads, each once, in the order in which they stand there
abbrev pub fields_read : List FieldPlace → Term → List FieldPlace
fields_read found (field f) = if has_field found f then found else found ++ f ∷ []
fields_read found (opposite t) = fields_read found t
fields_read found (denial t) = fields_read found t
fields_read found (binary o a b) = fields_read (fields_read found a) b
fields_read found _ = found

-- a change is one of this field
abbrev pub is_change_of : Change → FieldPlace → Bool
is_change_of c f = if c.actor == f.actor then c.field == f.field else false

-- What a turn with these changes leaves in a field: the value after its change, or the one from before the turn.
abbrev pub value_left : List Change → List (List ℤ) → FieldPlace → ℤ
value_left [] before f = field_at before f
value_left (c ∷ cs) before f = if is_change_of c f then c.after else value_left cs before f

-- what a turn leaves in these fields, by their names; in front of the first stands `between`, and in front of each other one a comma
abbrev pub left_text : ScriptView → ℕ → List Change → List (List ℤ) → List ℕ → List FieldPlace → List ℕ
left_text p e changes before between [] = []
left_text p e changes before between (f ∷ fs) = between ++ field_name p (actor_at p e f.actor) f.field ++ codes " " ++ signed_decimal (value_left changes before f) ++ left_text p e changes before (codes ", ") fs

-- the names that an invariant of this actor is written with
abbrev pub names_of : ScriptView → ℕ → ℕ → NamesView
names_of p e a = record { script = p; executor = e; actor = a; variables = [] }

-- An invariant, with what a turn with these changes would have left in the fields that it reads.
abbrev pub false_text : ScriptView → ℕ → List Change → List (List ℤ) → ℕ × Term → List ℕ
false_text p e changes before i = codes "invariant " ++ formula_text (names_of p e i.0) i.1 ++ codes " of " ++ actor_name p i.0 ++ codes " is false with " ++ left_text p e changes before [] (fields_read [] i.1)

-- the line of a false invariant, where there is one
abbrev pub false_lines : ScriptView → ℕ → List Change → List (List ℤ) → Option (ℕ × Term) → List (List ℕ)
false_lines p e changes before None = []
false_lines p e changes before (Some i) = false_text p e changes before i ∷ []
