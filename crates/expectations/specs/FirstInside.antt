-- The first token of an expectation, where an actor's field is one.
use Rattle.std.specs.Prelude.{ℕ, Option, Some, None, List, [], ◌∷◌, ◌++◌}
use Rattle.script_tokens.specs.declared.mark.Mark.TheVariants as mark
use Rattle.script_tokens.specs.Pieces.{TokenView, Name, Sign, Stray}

-- the name at the front, and the tokens after it
abbrev pub name_first : List TokenView → Option (List ℕ × List TokenView)
name_first (Name f ∷ ts) = Some (f, ts)
name_first _ = None

-- the name after a dot at the front, and the tokens after it
abbrev pub field_first : List TokenView → Option (List ℕ × List TokenView)
field_first (Sign mark.Dot ∷ ts) = name_first ts
field_first _ = None

-- an actor's name, or that of its field, and the tokens after it
abbrev pub named_with : List ℕ → List TokenView → Option (List ℕ × List TokenView) → TokenView × List TokenView
named_with a ts None = (Name a, ts)
named_with a ts (Some x) = (Name (a ++ 46 ∷ x.0), x.1)

-- the first token, and those after it
abbrev pub first_of : List TokenView → TokenView × List TokenView
first_of [] = (Stray, [])
first_of (Name a ∷ ts) = named_with a ts (field_first ts)
first_of (t ∷ ts) = (t, ts)
