-- What the fields of seats and of jobs with tickets keep.
use Rattle.std.specs.Prelude.{◌≡◌, Bool, true, Option, List, [], ◌∷◌, reverse, cond}
use Rattle.swift_job.specs.Job.{JobView}
use Rattle.swift_script.specs.Scripts.{ScriptView}
use Rattle.swift_turn.specs.Body.{BodyView}
use Rattle.swift_course.specs.declared.known.Known.{Known}
use Rattle.swift_shared_book.specs.Shared.{BookSeatView, tickets_view}

-- a badge of one seat, or of none
abbrev pub IsOneAtMost : List Known → Type 0
IsOneAtMost [] = Unit {0}
IsOneAtMost (known ∷ []) = Unit {0}
IsOneAtMost (known ∷ l ∷ others) = ⊥

-- the jobs of a list, the oldest first; where it is reversed, its last is the oldest
abbrev pub oldest_first : Bool → List (JobView BodyView) → List (JobView BodyView)
oldest_first is_reversed jobs = cond is_reversed (reverse jobs) jobs

-- The seat is there, and has the tickets of these jobs alone, in their order.
abbrev pub HasTicketsOf : List (JobView BodyView) → BookSeatView → Type 0
HasTicketsOf jobs s = (s.here ≡ true) × (script : Option ScriptView) × (s.knows ≡ tickets_view script jobs)
