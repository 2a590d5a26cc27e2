-- How events are stored. Only this crate's proofs use it.
use Rattle.std.specs.Prelude.{◌≡◌, ℕ, ◌+◌, ◌≤◌, ◌%◌, ◌^◌, ℤ, pos, List, [], ◌∷◌, ◌++◌, length, slice_index_or}
use Rattle.swift_types.specs.declared.id.TaskId.{TaskId}
use Rattle.swift_types.specs.declared.outcome.Fault.{Fault}
use Rattle.swift_types.specs.declared.outcome.Fault.TheVariants as fault
use Rattle.swift_types.specs.declared.outcome.Ending.{Ending}
use Rattle.swift_types.specs.declared.outcome.Ending.TheVariants as ending
use Rattle.swift_types.specs.declared.outcome.Resume.{Resume}
use Rattle.swift_types.specs.declared.outcome.Resume.TheVariants as resume
use Rattle.swift_events.specs.declared.event.Event.{Event}
use Rattle.swift_events.specs.declared.event.Event.TheVariants as event
use Rattle.swift_log.specs.declared.entry.EndingKind.{EndingKind}
use Rattle.swift_log.specs.declared.entry.EndingKind.TheVariants as outcome
use Rattle.swift_log.specs.declared.entry.LogEntry.{LogEntry}
use Rattle.swift_log.specs.declared.entry.LogEntry.TheVariants as entry

-- a fault without its number
abbrev pub fault_outcome : Fault → EndingKind
fault_outcome (fault.Thrown n) = outcome.Thrown
fault_outcome fault.Cancelled = outcome.Cancelled
fault_outcome fault.Invariant = outcome.Invariant
fault_outcome fault.Overflow = outcome.Overflow
fault_outcome fault.Steps = outcome.Steps
fault_outcome fault.Turns = outcome.Turns
fault_outcome fault.Depth = outcome.Depth
fault_outcome fault.Tasks = outcome.Tasks
fault_outcome fault.Empty = outcome.Empty
fault_outcome fault.Isolation = outcome.Isolation

-- an ending without its number
abbrev pub outcome_of : Ending → EndingKind
outcome_of (ending.Value n) = outcome.Value
outcome_of (ending.Fault f) = fault_outcome f

-- the ending, with this number where it has one
abbrev pub ending_of : EndingKind → ℤ → Ending
ending_of outcome.Value n = ending.Value n
ending_of outcome.Thrown n = ending.Fault (fault.Thrown n)
ending_of outcome.Cancelled n = ending.Fault fault.Cancelled
ending_of outcome.Invariant n = ending.Fault fault.Invariant
ending_of outcome.Overflow n = ending.Fault fault.Overflow
ending_of outcome.Steps n = ending.Fault fault.Steps
ending_of outcome.Turns n = ending.Fault fault.Turns
ending_of outcome.Depth n = ending.Fault fault.Depth
ending_of outcome.Tasks n = ending.Fault fault.Tasks
ending_of outcome.Empty n = ending.Fault fault.Empty
ending_of outcome.Isolation n = ending.Fault fault.Isolation

-- what goes on after such an ending is resumed with it
abbrev pub resume_of : Ending → Resume
resume_of (ending.Value n) = resume.Value n
resume_of (ending.Fault f) = resume.Fault f

-- the number of a fault, of an ending, of an event: none or one
abbrev pub fault_numbers : Fault → List ℤ
fault_numbers (fault.Thrown n) = n ∷ []
fault_numbers _ = []

abbrev pub numbers_in : Ending → List ℤ
numbers_in (ending.Value n) = n ∷ []
numbers_in (ending.Fault f) = fault_numbers f

abbrev pub resume_numbers : Resume → List ℤ
resume_numbers (resume.Value n) = n ∷ []
resume_numbers (resume.Fault f) = fault_numbers f
resume_numbers _ = []

abbrev pub numbers_of : Event → List ℤ
numbers_of (event.End t e) = numbers_in e
numbers_of (event.Give t n r) = resume_numbers r
numbers_of _ = []

-- the number at a place, or 0
abbrev pub number_at : List ℤ → ℕ → ℤ
number_at ns place = slice_index_or ns place (pos 0)

-- the entry of a job that is made
abbrev pub give_entry : Resume → TaskId → ℕ → ℕ → LogEntry
give_entry resume.Start t n place = entry.GiveStart t n
give_entry resume.Go t n place = entry.GiveGo t n
give_entry (resume.Value v) t n place = entry.GiveAfter outcome.Value t n place
give_entry (resume.Fault f) t n place = entry.GiveAfter (fault_outcome f) t n place

-- the entry of an event, whose number, if it has one, stands at this place
abbrev pub entry_of : Event → ℕ → LogEntry
entry_of (event.Root t p) place = entry.Root p t
entry_of (event.Begin t n env) place = entry.Begin env.priority env.cancelled t n env.room
entry_of (event.Apply t n) place = entry.Apply t n
entry_of (event.Free t by p detached) place = entry.Free p detached t by
entry_of (event.Open o g) place = entry.Open o g
entry_of (event.Child t o g p) place = entry.Child p t o g
entry_of (event.Skip o g) place = entry.Skip o g
entry_of (event.CancelTask t) place = entry.CancelTask t
entry_of (event.CancelGroup o g) place = entry.CancelGroup o g
entry_of (event.Wait t awaited) place = entry.Wait t awaited
entry_of (event.Next o g) place = entry.Next o g
entry_of (event.Close o g) place = entry.Close o g
entry_of (event.End t e) place = entry.End (outcome_of e) t place
entry_of (event.Give t n r) place = give_entry r t n place

-- the event of an entry, by the numbers beside it; the first one, where it stands for more
abbrev pub event_of : List ℤ → LogEntry → Event
event_of ns (entry.Root p t) = event.Root t p
event_of ns (entry.Begin p cancelled t n room) = event.Begin t n (record { priority = p; cancelled = cancelled; room = room })
event_of ns (entry.Turn p cancelled t n room) = event.Begin t n (record { priority = p; cancelled = cancelled; room = room })
event_of ns (entry.Yield p cancelled t n room) = event.Begin t n (record { priority = p; cancelled = cancelled; room = room })
event_of ns (entry.Apply t n) = event.Apply t n
event_of ns (entry.Free p detached t by) = event.Free t by p detached
event_of ns (entry.Open o g) = event.Open o g
event_of ns (entry.Child p t o g) = event.Child t o g p
event_of ns (entry.Skip o g) = event.Skip o g
event_of ns (entry.CancelTask t) = event.CancelTask t
event_of ns (entry.CancelGroup o g) = event.CancelGroup o g
event_of ns (entry.Wait t awaited) = event.Wait t awaited
event_of ns (entry.Next o g) = event.Next o g
event_of ns (entry.Close o g) = event.Close o g
event_of ns (entry.End o t place) = event.End t (ending_of o (number_at ns place))
event_of ns (entry.GiveStart t n) = event.Give t n resume.Start
event_of ns (entry.GiveGo t n) = event.Give t n resume.Go
event_of ns (entry.GiveAfter o t n place) = event.Give t n (resume_of (ending_of o (number_at ns place)))

-- the number of the turn after this one, in 32 bits
abbrev pub next_number : ℕ → ℕ
next_number n = (n + 1) % 2 ^ 32

-- the events that an entry stands for beside its first one
abbrev pub later_of : LogEntry → List Event
later_of (entry.Turn p cancelled t n room) = event.Apply t n ∷ []
later_of (entry.Yield p cancelled t n room) = event.Apply t n ∷ event.Give t (next_number n) resume.Go ∷ []
later_of _ = []

-- the events that an entry stands for
abbrev pub events_of : List ℤ → LogEntry → List Event
events_of ns x = event_of ns x ∷ later_of x

-- how many these are
abbrev pub width_of : LogEntry → ℕ
width_of x = length (events_of [] x)

-- how many numbers there are up to that of an ending, which stands at this place; none where it has none
abbrev pub numbers_to : EndingKind → ℕ → ℕ
numbers_to outcome.Value place = place + 1
numbers_to outcome.Thrown place = place + 1
numbers_to _ place = 0

-- how many numbers an entry needs beside it
abbrev pub needed : LogEntry → ℕ
needed (entry.End o t place) = numbers_to o place
needed (entry.GiveAfter o t n place) = numbers_to o place
needed _ = 0

-- there are as many
abbrev pub IsWithin : ℕ → LogEntry → Type 0
IsWithin n x = needed x ≤ n

-- the second entry stands for the events of the first and then for this one
pub record Joins (x : LogEntry) (e : Event) (y : LogEntry) : Type 0 where
  pub events : (ns : List ℤ) → events_of ns y ≡ events_of ns x ++ e ∷ []
  pub needed : needed y ≡ 0
