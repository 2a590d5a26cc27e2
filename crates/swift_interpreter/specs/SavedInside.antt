-- What the fields of saved rows keep. No public clause names these.
use Rattle.std.specs.Prelude.{ℕ, ℤ, List, [], ◌∷◌, ◌==◌, if◌then◌else◌, map, reverse}
use Rattle.swift_interpreter.specs.declared.saved.SavedRow.{SavedRow}

abbrev pub row_of : SavedRow → ℕ × List ℤ
row_of r = (r.actor, r.row.items)

-- rows in the order in which they were saved, the newest first
abbrev pub newest_first : List SavedRow → List (ℕ × List ℤ)
newest_first rows = map row_of (reverse rows)

-- the oldest row of an actor among those that are saved, and this one where there is none
abbrev pub oldest : List (ℕ × List ℤ) → ℕ → List ℤ → List ℤ
oldest [] actor row = row
oldest (p ∷ older) actor row = oldest older actor (if p.0 == actor then p.1 else row)
