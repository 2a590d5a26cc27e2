-- Where tasks stand, by their numbers. No public clause names these.
use Rattle.std.specs.Prelude.{ℕ, ◌≤◌, ◌<◌, Option, None, nat_lt, nat_eq, if◌then◌else◌, slice_index_or, vec_capacity}
use Rattle.std.specs.HashMap.{get, spare}
use Rattle.swift_types.specs.declared.limits.TheConstants.{TASKS}
use Rattle.swift_escalation.specs.declared.places.TaskPlaces.{TaskPlaces}

-- the place of the task with a number: of a small one in the list, else in the map
abbrev pub place_in : TaskPlaces → ℕ → Option ℕ
place_in p n = if nat_lt n TASKS then slice_index_or p.listed.items n None else get nat_eq p.mapped n

-- there is memory for n more tasks
abbrev pub HasRoom : TaskPlaces → ℕ → Type 0
HasRoom p n = (n ≤ spare p.mapped) × (0 < n → TASKS ≤ vec_capacity p.listed)
