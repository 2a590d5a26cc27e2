-- A stored event is read back, and an entry reads the same when numbers are added behind those that it needs.
use Rattle.std.proofs.Common.{◌≡◌, ℕ, ◌+◌, ◌<◌, ◌≤◌, ℤ, pos, List, [], ◌∷◌, ◌++◌, length, refl, ap, ◌∙◌, arith}
use Rattle.std.specs.List.{All}
use Rattle.std.proofs.lemmas.List.{get_or_at, get_or_append_left}
use Rattle.std.proofs.lemmas.List.Elements.{All-head, All-tail}
use Rattle.swift_types.specs.declared.id.TaskId.{TaskId}
use Rattle.swift_types.specs.declared.outcome.Fault.{Fault}
use Rattle.swift_types.specs.declared.outcome.Fault.TheVariants as fault
use Rattle.swift_types.specs.declared.outcome.Ending.{Ending}
use Rattle.swift_types.specs.declared.outcome.Ending.TheVariants as ending
use Rattle.swift_types.specs.declared.outcome.Resume.{Resume}
use Rattle.swift_types.specs.declared.outcome.Resume.TheVariants as resume
use Rattle.swift_events.specs.declared.event.Event.{Event}
use Rattle.swift_events.specs.declared.event.Event.TheVariants as event
use Rattle.swift_log.specs.declared.entry.EndingKind.{EndingKind}
use Rattle.swift_log.specs.declared.entry.EndingKind.TheVariants as outcome
use Rattle.swift_log.specs.declared.entry.LogEntry.{LogEntry}
use Rattle.swift_log.specs.declared.entry.LogEntry.TheVariants as entry
use Rattle.swift_log.specs.EntriesInside.{ending_of, entry_of, event_of, events_of, fault_numbers, fault_outcome, give_entry, later_of, needed, number_at, numbers_in, numbers_of, numbers_to, outcome_of, resume_numbers, resume_of, IsWithin}
use Rattle.swift_log.specs.MarksInside.{events_in}

-- a number that is added stands behind the others

read_last : (ns : List ℤ) (n : ℤ) → number_at (ns ++ n ∷ []) (length ns) ≡ n
read_last ns n = get_or_at ns n [] (pos 0) (length ns) refl

fault_read : (ns : List ℤ) (f : Fault) → ending_of (fault_outcome f) (number_at (ns ++ fault_numbers f) (length ns)) ≡ ending.Fault f
fault_read ns (fault.Thrown n) = ap (λ m. ending.Fault (fault.Thrown m)) (read_last ns n)
fault_read ns fault.Cancelled = refl
fault_read ns fault.Invariant = refl
fault_read ns fault.Overflow = refl
fault_read ns fault.Steps = refl
fault_read ns fault.Turns = refl
fault_read ns fault.Depth = refl
fault_read ns fault.Tasks = refl
fault_read ns fault.Empty = refl
fault_read ns fault.Isolation = refl

ending_read : (ns : List ℤ) (e : Ending) → ending_of (outcome_of e) (number_at (ns ++ numbers_in e) (length ns)) ≡ e
ending_read ns (ending.Value n) = ap (λ m. ending.Value m) (read_last ns n)
ending_read ns (ending.Fault f) = fault_read ns f

give_read : (ns : List ℤ) (r : Resume) (t : TaskId) (k : ℕ) → event_of (ns ++ resume_numbers r) (give_entry r t k (length ns)) ≡ event.Give t k r
give_read ns resume.Start t k = refl
give_read ns resume.Go t k = refl
give_read ns (resume.Value n) t k = ap (λ m. event.Give t k (resume.Value m)) (read_last ns n)
give_read ns (resume.Fault f) t k = ap (λ e. event.Give t k (resume_of e)) (fault_read ns f)

-- what is read of a stored event is that event
pub event_read : (ns : List ℤ) (e : Event) → event_of (ns ++ numbers_of e) (entry_of e (length ns)) ≡ e
event_read ns (event.Root t p) = refl
event_read ns (event.Begin t n env) = refl
event_read ns (event.Apply t n) = refl
event_read ns (event.Free t by p detached) = refl
event_read ns (event.Open o g) = refl
event_read ns (event.Child t o g p) = refl
event_read ns (event.Skip o g) = refl
event_read ns (event.CancelTask t) = refl
event_read ns (event.CancelGroup o g) = refl
event_read ns (event.Wait t awaited) = refl
event_read ns (event.Next o g) = refl
event_read ns (event.Close o g) = refl
event_read ns (event.End t e) = ap (λ x. event.End t x) (ending_read ns e)
event_read ns (event.Give t n r) = give_read ns r t n

-- such an entry needs no more numbers than there are then

fault_needs : (f : Fault) (k : ℕ) → numbers_to (fault_outcome f) k ≤ k + length (fault_numbers f)
fault_needs (fault.Thrown n) k = omega arith
fault_needs fault.Cancelled k = omega arith
fault_needs fault.Invariant k = omega arith
fault_needs fault.Overflow k = omega arith
fault_needs fault.Steps k = omega arith
fault_needs fault.Turns k = omega arith
fault_needs fault.Depth k = omega arith
fault_needs fault.Tasks k = omega arith
fault_needs fault.Empty k = omega arith
fault_needs fault.Isolation k = omega arith

ending_needs : (e : Ending) (k : ℕ) → numbers_to (outcome_of e) k ≤ k + length (numbers_in e)
ending_needs (ending.Value n) k = omega arith
ending_needs (ending.Fault f) k = fault_needs f k

give_needs : (r : Resume) (t : TaskId) (n k : ℕ) → needed (give_entry r t n k) ≤ k + length (resume_numbers r)
give_needs resume.Start t n k = omega arith
give_needs resume.Go t n k = omega arith
give_needs (resume.Value v) t n k = omega arith
give_needs (resume.Fault f) t n k = fault_needs f k

pub event_needs : (e : Event) (k : ℕ) → needed (entry_of e k) ≤ k + length (numbers_of e)
event_needs (event.Root t p) k = omega arith
event_needs (event.Begin t m env) k = omega arith
event_needs (event.Apply t m) k = omega arith
event_needs (event.Free t by p detached) k = omega arith
event_needs (event.Open o g) k = omega arith
event_needs (event.Child t o g p) k = omega arith
event_needs (event.Skip o g) k = omega arith
event_needs (event.CancelTask t) k = omega arith
event_needs (event.CancelGroup o g) k = omega arith
event_needs (event.Wait t awaited) k = omega arith
event_needs (event.Next o g) k = omega arith
event_needs (event.Close o g) k = omega arith
event_needs (event.End t e) k = ending_needs e k
event_needs (event.Give t n r) k = give_needs r t n k

-- an event has one number at most

fault_one : (f : Fault) → length (fault_numbers f) ≤ 1
fault_one (fault.Thrown n) = omega arith
fault_one fault.Cancelled = omega arith
fault_one fault.Invariant = omega arith
fault_one fault.Overflow = omega arith
fault_one fault.Steps = omega arith
fault_one fault.Turns = omega arith
fault_one fault.Depth = omega arith
fault_one fault.Tasks = omega arith
fault_one fault.Empty = omega arith
fault_one fault.Isolation = omega arith

ending_one : (e : Ending) → length (numbers_in e) ≤ 1
ending_one (ending.Value n) = omega arith
ending_one (ending.Fault f) = fault_one f

resume_one : (r : Resume) → length (resume_numbers r) ≤ 1
resume_one resume.Start = omega arith
resume_one resume.Go = omega arith
resume_one (resume.Value v) = omega arith
resume_one (resume.Fault f) = fault_one f

pub one_number : (e : Event) → length (numbers_of e) ≤ 1
one_number (event.Root t p) = omega arith
one_number (event.Begin t n env) = omega arith
one_number (event.Apply t n) = omega arith
one_number (event.Free t by p detached) = omega arith
one_number (event.Open o g) = omega arith
one_number (event.Child t o g p) = omega arith
one_number (event.Skip o g) = omega arith
one_number (event.CancelTask t) = omega arith
one_number (event.CancelGroup o g) = omega arith
one_number (event.Wait t awaited) = omega arith
one_number (event.Next o g) = omega arith
one_number (event.Close o g) = omega arith
one_number (event.End t e) = ending_one e
one_number (event.Give t n r) = resume_one r

-- entries read as before when numbers are added

number_kept : (ns ms : List ℤ) (k : ℕ) → k < length ns → number_at (ns ++ ms) k ≡ number_at ns k
number_kept ns ms k below = get_or_append_left ns ms (pos 0) k below

ending_kept : (ns ms : List ℤ) (o : EndingKind) (k : ℕ) → numbers_to o k ≤ length ns → ending_of o (number_at (ns ++ ms) k) ≡ ending_of o (number_at ns k)
ending_kept ns ms outcome.Value k within = ap (λ n. ending.Value n) (number_kept ns ms k (omega (arith, within)))
ending_kept ns ms outcome.Thrown k within = ap (λ n. ending.Fault (fault.Thrown n)) (number_kept ns ms k (omega (arith, within)))
ending_kept ns ms outcome.Cancelled k within = refl
ending_kept ns ms outcome.Invariant k within = refl
ending_kept ns ms outcome.Overflow k within = refl
ending_kept ns ms outcome.Steps k within = refl
ending_kept ns ms outcome.Turns k within = refl
ending_kept ns ms outcome.Depth k within = refl
ending_kept ns ms outcome.Tasks k within = refl
ending_kept ns ms outcome.Empty k within = refl
ending_kept ns ms outcome.Isolation k within = refl

entry_kept : (ns ms : List ℤ) (x : LogEntry) → IsWithin (length ns) x → event_of (ns ++ ms) x ≡ event_of ns x
entry_kept ns ms (entry.Root p t) within = refl
entry_kept ns ms (entry.Begin p cancelled t n room) within = refl
entry_kept ns ms (entry.Turn p cancelled t n room) within = refl
entry_kept ns ms (entry.Yield p cancelled t n room) within = refl
entry_kept ns ms (entry.Apply t n) within = refl
entry_kept ns ms (entry.Free p detached t by) within = refl
entry_kept ns ms (entry.Open o g) within = refl
entry_kept ns ms (entry.Child p t o g) within = refl
entry_kept ns ms (entry.Skip o g) within = refl
entry_kept ns ms (entry.CancelTask t) within = refl
entry_kept ns ms (entry.CancelGroup o g) within = refl
entry_kept ns ms (entry.Wait t awaited) within = refl
entry_kept ns ms (entry.Next o g) within = refl
entry_kept ns ms (entry.Close o g) within = refl
entry_kept ns ms (entry.GiveStart t n) within = refl
entry_kept ns ms (entry.GiveGo t n) within = refl
entry_kept ns ms (entry.End o t k) within = ap (λ e. event.End t e) (ending_kept ns ms o k within)
entry_kept ns ms (entry.GiveAfter o t n k) within = ap (λ e. event.Give t n (resume_of e)) (ending_kept ns ms o k within)

pub entries_kept : (ns ms : List ℤ) (xs : List LogEntry) → All (IsWithin (length ns)) xs → events_in (ns ++ ms) xs ≡ events_in ns xs
entries_kept ns ms [] within = refl
entries_kept ns ms (x ∷ xs) within =
    ap (λ e. (e ∷ later_of x) ++ events_in (ns ++ ms) xs) (entry_kept ns ms x (All-head (IsWithin (length ns)) x xs within))
    ∙ ap (λ es. events_of ns x ++ es) (entries_kept ns ms xs (All-tail (IsWithin (length ns)) x xs within))

-- the entry of one event stands for no other

give_alone : (r : Resume) (t : TaskId) (n k : ℕ) → later_of (give_entry r t n k) ≡ []
give_alone resume.Start t n k = refl
give_alone resume.Go t n k = refl
give_alone (resume.Value v) t n k = refl
give_alone (resume.Fault f) t n k = refl

pub event_alone : (e : Event) (k : ℕ) → later_of (entry_of e k) ≡ []
event_alone (event.Root t p) k = refl
event_alone (event.Begin t n env) k = refl
event_alone (event.Apply t n) k = refl
event_alone (event.Free t by p detached) k = refl
event_alone (event.Open o g) k = refl
event_alone (event.Child t o g p) k = refl
event_alone (event.Skip o g) k = refl
event_alone (event.CancelTask t) k = refl
event_alone (event.CancelGroup o g) k = refl
event_alone (event.Wait t awaited) k = refl
event_alone (event.Next o g) k = refl
event_alone (event.Close o g) k = refl
event_alone (event.End t e) k = refl
event_alone (event.Give t n r) k = give_alone r t n k
