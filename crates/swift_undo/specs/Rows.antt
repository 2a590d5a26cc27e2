-- Which row of fields an invariant reads (our own).
use Rattle.std.specs.Prelude.{ℕ, ◌==◌, Bool, true, false, if◌then◌else◌, Option, Some, None, List, [], ◌∷◌, IsTrue, unwrap_or, ℤ}
use Rattle.script_code.specs.Value.{holds}
use Rattle.script_code.specs.Tree.{Term, field, opposite, denial, binary}

-- an expression reads no field but those of the actor at this place of its executor
abbrev pub reads_only : ℕ → Term → Bool
reads_only row (field p) = p.actor == row
reads_only row (opposite t) = reads_only row t
reads_only row (denial t) = reads_only row t
reads_only row (binary op a b) = if reads_only row a then reads_only row b else false
reads_only row _ = true

-- the one, or else the other
abbrev pub or_else : Option ℕ → Option ℕ → Option ℕ
or_else None other = other
or_else (Some row) other = Some row

-- the place of the actor whose field stands first in an expression, if one does
abbrev pub first_row : Term → Option ℕ
first_row (field p) = Some p.actor
first_row (opposite t) = first_row t
first_row (denial t) = first_row t
first_row (binary op a b) = or_else (first_row a) (first_row b)
first_row _ = None

-- the row that an expression reads, if it reads one alone; 0 where it reads none
abbrev pub row_of : Term → ℕ
row_of t = unwrap_or (first_row t) 0

-- the rows that these read, up to the first that reads more than one
abbrev pub rows_read : List Term → List ℕ
rows_read [] = []
rows_read (t ∷ ts) = if reads_only (row_of t) t then row_of t ∷ rows_read ts else []

-- Beside each of the first invariants stands the row that it reads. One beside which none stands may read any.
abbrev pub HaveRows : List ℕ → List Term → Type 0
HaveRows [] invariants = Unit {0}
HaveRows (row ∷ rows) [] = Unit {0}
HaveRows (row ∷ rows) (t ∷ invariants) = IsTrue (reads_only row t) × HaveRows rows invariants

-- Each of the first invariants reads the row beside it alone, and holds of these fields.
abbrev pub AreSpared : List ℕ → List Term → List (List ℤ) → Type 0
AreSpared [] invariants fields = Unit {0}
AreSpared (row ∷ rows) [] fields = Unit {0}
AreSpared (row ∷ rows) (t ∷ invariants) fields = (IsTrue (reads_only row t) × IsTrue (holds (Some t) fields)) × AreSpared rows invariants fields
