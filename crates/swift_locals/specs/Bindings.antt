-- What a read of a task local gives (SE-0311).
use Rattle.std.specs.Prelude.{ℕ, ℤ, List, [], ◌∷◌, Option, None, Some, if◌then◌else◌, ◌==◌}

-- What the innermost pair of that local has, which is the first; nothing where there is none, and then its default counts.
abbrev pub value_of : List (ℕ × ℤ) → ℕ → Option ℤ
value_of [] local = None
value_of (pair ∷ pairs) local = if pair.0 == local then Some pair.1 else value_of pairs local
