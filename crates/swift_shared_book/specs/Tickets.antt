-- A job with the right to run its turn (our own).
use Rattle.std.specs.Prelude.{◌≡◌, Option, Some, None, List, [], ◌∷◌}
use Rattle.atomic_table.specs.Seated.{TableId}
use Rattle.swift_job.specs.Job.{JobView}
use Rattle.swift_turn.specs.Body.{BodyView}
use Rattle.swift_history.specs.TurnEnds.{JobFacts}
use Rattle.swift_script.specs.Scripts.{ScriptView}
use Rattle.swift_shared_book.specs.LockSeat.{BadgeView}
use Rattle.swift_course.specs.Views.{BookKnown, fresh}
use Rattle.swift_course.specs.declared.known.Known.{Known}
use Rattle.swift_history.specs.Jobs.{job_facts}

-- what a seat knows that has the ticket of this job alone
abbrev pub ticket_view : Option ScriptView → JobFacts → BookKnown
ticket_view script j = record { script = script; accounts = []; tickets = fresh j ∷ []; maker = None }

-- A ticket is that of this job.
abbrev pub IsTicketOf : JobView BodyView → List Known → Type 0
IsTicketOf j [] = ⊥
IsTicketOf j (known ∷ []) = (script : Option ScriptView) × (known.view ≡ ticket_view script (job_facts j))
IsTicketOf j (known ∷ l ∷ others) = ⊥

-- the lock, where a seat knows something of it; none where there is no seat
abbrev pub book_at : TableId → List Known → Option TableId
book_at lock [] = None
book_at lock (known ∷ others) = Some lock

-- of which book a badge is, by the book's lock; none where it is no seat
abbrev pub book_of : BadgeView Known → Option TableId
book_of b = book_at b.lock b.knows

-- a job, and the book that gave it, by its lock
pub record TicketedJobView : Type 0 where
  pub job : JobView BodyView
  pub book : Option TableId
