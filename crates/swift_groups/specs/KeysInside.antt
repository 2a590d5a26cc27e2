-- The keys and marks of the map of children.
use Rattle.std.specs.Prelude.{ℕ, Bool, false, not, ◌&&◌, nat_eq, Option, None, Some}
use Rattle.swift_types.specs.declared.id.TaskId.{TaskId}

-- Keys are the same where group and task are.
abbrev pub same_key : ℕ × TaskId → ℕ × TaskId → Bool
same_key x y = nat_eq x.0 y.0 && nat_eq x.1.0 y.1.0

-- Whether a mark is that of a child that has not ended.
abbrev pub unended : Option Bool → Bool
unended (Some ended) = not ended
unended None = false
