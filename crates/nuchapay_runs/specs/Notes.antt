-- What is said of the changes of a turn, as bytes (the format is our own).
use Rattle.std.specs.Prelude.{◌≡◌, ℕ, List, [], ◌∷◌, ◌++◌, codes, flat_map, map, slice_get, slice_range, unwrap_or}
use Rattle.std.specs.Fmt.{signed_decimal}
use Rattle.swift_script.specs.Scripts.{ScriptView, actor_name, executor_actors, field_name}
use Rattle.run_pictures.specs.declared.values.change.Change.{Change}

-- the actor at a place of an executor; the first one where there is none
abbrev pub actor_at : ScriptView → ℕ → ℕ → ℕ
actor_at p e k = unwrap_or (slice_get (executor_actors p e) k) 0

-- a field by its names, that of its actor first
abbrev pub place_text : ScriptView → ℕ → ℕ → ℕ → List ℕ
place_text p e k i = actor_name p (actor_at p e k) ++ codes "." ++ field_name p (actor_at p e k) i

-- a changed field with its values before and after
abbrev pub change_text : ScriptView → ℕ → Change → List ℕ
change_text p e c = place_text p e c.actor c.field ++ codes " " ++ signed_decimal c.before ++ codes " -> " ++ signed_decimal c.after

-- a line of a note: it begins with four spaces
abbrev pub note_line : List ℕ → List ℕ
note_line words = codes "    " ++ words ++ codes "\n"

-- the lines of notes, one after the other, each as `note_line` writes it
abbrev pub note_lines : List (List ℕ) → List ℕ
note_lines = flat_map note_line

-- each change after these words
abbrev pub change_lines : ScriptView → ℕ → List ℕ → List Change → List (List ℕ)
change_lines p e front changes = map (λ c. front ++ change_text p e c) changes

-- Only lines of notes are put after a text.
abbrev pub AppendsNotes : List ℕ → List ℕ → Type 0
AppendsNotes old new = (lines : List (List ℕ)) × (new ≡ old ++ note_lines lines)

-- a part of a text, and the lines of the notes that follow it
pub record NotedPart : Type 0 where
  pub part : List ℕ
  pub notes : List (List ℕ)

-- the parts of a text, one after the other, each with the lines of its notes after it
abbrev pub with_notes : List NotedPart → List ℕ
with_notes [] = []
with_notes (p ∷ ps) = (p.part ++ note_lines p.notes) ++ with_notes ps

-- the parts of a text, one after the other, without their notes
abbrev pub without_notes : List NotedPart → List ℕ
without_notes [] = []
without_notes (p ∷ ps) = p.part ++ without_notes ps

-- A text with lines of notes in it: without these it is the other text.
abbrev pub IsAnnotated : List ℕ → List ℕ → Type 0
IsAnnotated text annotated = (pieces : List NotedPart) × (without_notes pieces ≡ text) × (with_notes pieces ≡ annotated)

-- The part of a text from one place to another is appended, with lines of notes in it.
abbrev pub AppendsAnnotated : List ℕ → ℕ → ℕ → List ℕ → List ℕ → Type 0
AppendsAnnotated text from to old new = (pieces : List NotedPart) × (without_notes pieces ≡ slice_range text from to) × (new ≡ old ++ with_notes pieces)
