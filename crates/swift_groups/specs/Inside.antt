-- What the fields keep. No public clause names these.
use Rattle.std.specs.Prelude.{◌≡◌, ℕ, suc, if◌then◌else◌, ◌==◌, ◌-◌, List, Option, None, Some, [], ◌∷◌, Result, Ok, Err, length, slice_get, slice_index_or}
use Rattle.swift_types.specs.declared.id.TaskId.{TaskId}
use Rattle.swift_types.specs.declared.outcome.Ending.{Ending}
use Rattle.swift_groups.specs.declared.fault.GroupFault.{GroupFault}
use Rattle.swift_groups.specs.declared.fault.GroupFault.TheVariants.{Unknown}
use Rattle.swift_groups.specs.declared.group.Group.{Group}
use Rattle.swift_groups.specs.declared.group.Child.{Child}
use Rattle.swift_groups.specs.declared.group.ChildEnding.{ChildEnding}
use Rattle.swift_groups.specs.Answers.{if_open, if_live}

abbrev pub open_found : Option Group → Result Group GroupFault
open_found None = Err Unknown
open_found (Some g) = if_open g.stage g

abbrev pub live_found : Option Group → Result Group GroupFault
live_found None = Err Unknown
live_found (Some g) = if_live g.stage g

abbrev pub known_found : Option Group → Result Group GroupFault
known_found None = Err Unknown
known_found (Some g) = Ok g

abbrev pub open_in : List Group → ℕ → Result Group GroupFault
open_in groups i = open_found (slice_get groups i)

abbrev pub live_in : List Group → ℕ → Result Group GroupFault
live_in groups i = live_found (slice_get groups i)

abbrev pub known_in : List Group → ℕ → Result Group GroupFault
known_in groups i = known_found (slice_get groups i)

-- The children of a group, in order of adding.
abbrev pub added_of : List Child → ℕ → List TaskId
added_of [] i = []
added_of (c ∷ cs) i = if c.group == i then c.task ∷ added_of cs i else added_of cs i

-- Its endings, in order.
abbrev pub ended_of : List ChildEnding → ℕ → List (TaskId × Ending)
ended_of [] i = []
ended_of (e ∷ es) i = if e.group == i then (e.task, e.ending) ∷ ended_of es i else ended_of es i

-- The places of its endings, in order, where the first of the list has the place n.
abbrev pub places_from : ℕ → List ChildEnding → ℕ → List ℕ
places_from n [] i = []
places_from n (e ∷ es) i = if e.group == i then n ∷ places_from (suc n) es i else places_from (suc n) es i

abbrev pub places_of : List ChildEnding → ℕ → List ℕ
places_of es i = places_from 0 es i

abbrev pub last_of : List ℕ → Option ℕ
last_of places = slice_get places (length places - 1)

-- Each ending has the place of the next one of its group.
pub record AreLinked (endings : List ChildEnding) (after : List (Option ℕ)) : Type 0 where
  pub same : length after ≡ length endings
  pub next : (i r k : ℕ) → slice_get (places_of endings i) r ≡ Some k → slice_index_or after k None ≡ slice_get (places_of endings i) (suc r)
