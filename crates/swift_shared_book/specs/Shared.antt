-- The book as threads share it, its seats, and the jobs that it gave, as callers see them (our own).
use Rattle.std.specs.Prelude.{◌≡◌, ℕ, ◌-◌, Bool, true, false, Option, Some, None, List, [], ◌∷◌, drop, length, map, slice_get, IsPermutation}
use mathlib.Core.Option.{some}
use lib.ListN.{get_elem?}
use Rattle.atomic_table.specs.Seated.{TableId}
use Rattle.swift_types.specs.declared.env.Env.{Env}
use Rattle.swift_script.specs.Scripts.{ScriptView}
use Rattle.swift_job.specs.Job.{JobView}
use Rattle.swift_turn.specs.Body.{BodyView}
use Rattle.swift_events.specs.declared.event.Event.{Event}
use Rattle.swift_history.specs.Orderly.{job_executor}
use Rattle.swift_history.specs.TurnEnds.{JobFacts}
use Rattle.swift_journal.specs.Records.{RecordView}
use Rattle.swift_course.specs.Course.{IsCourse}
use Rattle.swift_course.specs.Views.{Account, BookFacts, BookKnown, Ticket, fresh, no_view}
use Rattle.swift_course.specs.declared.known.BookImage.{BookImage}
use Rattle.swift_course.specs.declared.known.Known.{Known}
use Rattle.swift_course.specs.Steps.{knowing_begin, with_record}
use Rattle.swift_shared_book.specs.Calls.{IsPlayed, facts_of}
use Rattle.swift_tasks.specs.Books.{BookView}
use Rattle.swift_history.specs.Jobs.{job_facts}

-- which lock it is, and the script of its book
pub record BookLockView : Type 0 where
  pub id : TableId
  pub script : ScriptView

-- A seat: its lock, whether it is there, and what it knows. It is not there while the book is out by it, and knows nothing then.
pub record BookSeatView : Type 0 where
  pub lock : TableId
  pub here : Bool
  pub knows : BookKnown

-- a seat that has taken the book: its lock, what it knows, and the book as it was then
pub record OpenSeatView : Type 0 where
  pub lock : TableId
  pub knows : BookKnown
  pub taken : Option BookFacts

-- what is seen of the views of a badge, and of what a seat has taken
abbrev pub is_there : List Known → Bool
is_there [] = false
is_there (known ∷ others) = true

abbrev pub view_in : List Known → BookKnown
view_in [] = no_view
view_in (known ∷ others) = known.view

abbrev pub facts_in : Option BookImage → Option BookFacts
facts_in None = None
facts_in (Some image) = Some image.facts

-- a seat of this lock, which knows this
abbrev pub seat_of : BookLockView → BookKnown → BookSeatView
seat_of l v = record { lock = l.id; here = true; knows = v }

-- the same seat, which now knows this
abbrev pub knowing : BookKnown → BookSeatView → BookSeatView
knowing v s = record s { knows = v }

-- The seat is of this lock, is there, and knows the script.
abbrev pub IsSeatOf : BookLockView → BookSeatView → Type 0
IsSeatOf l s = (s.lock ≡ l.id) × (s.here ≡ true) × (s.knows.script ≡ Some l.script)

-- the book was taken from this lock, and is as it was then
abbrev pub IsAsTaken : BookLockView → OpenSeatView → BookView → Type 0
IsAsTaken l s b = (s.lock ≡ l.id) × (b.script ≡ l.script) × (s.taken ≡ Some (facts_of b))

-- The book is one that a run comes to in which some seat knows this: the rule of the run holds of it and of what all seats know.
abbrev pub IsInRun : BookKnown → BookFacts → Type 0
IsInRun v facts = (views : List BookKnown) × (seat : ℕ) × IsCourse facts views × (get_elem? views seat ≡ some v)

-- there is a ticket for this job, and these are the others, in some order
abbrev pub HasTicket : JobFacts → List Ticket → Type 0
HasTicket j tickets = (k : Ticket) × (rest : List Ticket) × IsPermutation tickets (k ∷ rest) × (k.job ≡ j)

-- the seat has one account, and this job runs on its executor
abbrev pub RunsAtSeat : ScriptView → BookKnown → JobFacts → Type 0
RunsAtSeat script v j = (a : Account) × (v.accounts ≡ a ∷ []) × (job_executor script (Some j) ≡ Some a.executor)

-- The turn of the ticket's job has begun in this environment: the ticket says so, and comes first. The accounts say that one more turn
-- has begun, where this was the log, and the last root was `there` or was not.
abbrev pub BeginsTicket : List Event → Bool → JobFacts → Env → BookKnown → BookKnown → Type 0
BeginsTicket log there j env v w = (k : Ticket) × (rest : List Ticket) × IsPermutation v.tickets (k ∷ rest) × (k.job ≡ j) × (w ≡ knowing_begin log there k rest env v)

-- the newest record of a journal
abbrev pub newest : List RecordView → Option RecordView
newest rs = slice_get rs (length rs - 1)

-- The turn of the job was played after the turns of the seat's one account, by its first ticket, and this is its record.
pub record HasPlayed (script : ScriptView) (v : BookKnown) (j : JobView BodyView) (r : RecordView) : Type 0 where
  pub account : Account
  pub ticket : Ticket
  pub rest : List Ticket
  pub accounts : v.accounts ≡ account ∷ []
  pub tickets : v.tickets ≡ ticket ∷ rest
  pub plays : IsPlayed script account ticket j r

-- what a seat knows once that turn was applied, and the tickets of the jobs that it makes were handed out
abbrev pub after_turn : RecordView → BookKnown → BookKnown
after_turn r v = record v { accounts = map (with_record r) v.accounts; tickets = drop 1 v.tickets }

-- what a seat knows that has taken in the ticket of a job
abbrev pub with_ticket : JobFacts → BookKnown → BookKnown
with_ticket j v = record v { tickets = fresh j ∷ v.tickets }

-- jobs with their tickets: the lock of the book that gave them, and the jobs, the oldest first
pub record TicketedJobsView : Type 0 where
  pub book : TableId
  pub jobs : List (JobView BodyView)

-- what a seat knows that has the tickets of these jobs alone
abbrev pub tickets_view : Option ScriptView → List (JobView BodyView) → BookKnown
tickets_view script jobs = record { script = script; accounts = []; tickets = map (λ j. fresh (job_facts j)) jobs; maker = None }
