-- Rows of fields that were saved before they were changed.
use Rattle.std.specs.Prelude.{ℕ, ℤ, Bool, true, false, List, [], ◌∷◌, ◌==◌, if◌then◌else◌, slice_set}

-- the fields after saved rows are put back, the newest first
abbrev pub restored : List (ℕ × List ℤ) → List (List ℤ) → List (List ℤ)
restored [] fields = fields
restored (p ∷ older) fields = restored older (slice_set fields p.0 p.1)

-- whether an actor's row is saved
abbrev pub is_saved : List (ℕ × List ℤ) → ℕ → Bool
is_saved [] actor = false
is_saved (p ∷ older) actor = if p.0 == actor then true else is_saved older actor

-- the fields after the newest row is put back
abbrev pub put_back_newest : List (ℕ × List ℤ) → List (List ℤ) → List (List ℤ)
put_back_newest [] fields = fields
put_back_newest (p ∷ older) fields = slice_set fields p.0 p.1
