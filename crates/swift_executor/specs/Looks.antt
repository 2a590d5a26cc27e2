-- A look at an executor that no worker holds (our own).
use Rattle.std.specs.Prelude.{◌≡◌, ℕ, ◌<◌, ◌/◌, ◌↔◌, None, List, ◌∷◌, ◌++◌, map}
use Rattle.swift_script.specs.Scripts.{executor_start}
use Rattle.swift_journal.specs.Checkpoints.{folded_of}
use Rattle.swift_journal.specs.Records.{RecordView}
use Rattle.swift_history.specs.Replay.{replay}
use Rattle.swift_history.specs.Histories.{records_of}
use Rattle.swift_course.specs.Reports.{HasHistory, Knows}
use Rattle.swift_course.specs.Views.{BookFacts, BookKnown}
use Rattle.swift_shared_book.specs.Shared.{BookSeatView}
use Rattle.swift_word.specs.declared.word.PendingLeft.TheVariants.{More}
use Rattle.swift_executor.specs.Exec.{DeskView, FoundFree, FoundRunning, image_of}
use Rattle.swift_executor.specs.Inbox.{InboxView}
use Rattle.swift_executor.specs.Taken.{TakenView}
use Rattle.swift_executor.specs.Seats.{IsSeatFor}
use Rattle.swift_executor.specs.State.{ExecInvariant, ExecStateView}
use Rattle.swift_executor.specs.Visits.{IsFree}
use Rattle.swift_executor.specs.declared.look.LookOutcome.{LookOutcome}
use Rattle.swift_executor.specs.declared.look.LookOutcome.TheVariants.{Free, Busy}

-- What is so of an executor that no worker holds. No job is chosen, and it keeps what an executor keeps. Its turns, those that its
-- checkpoint has folded and then those of its journal, are its part of a history that led to a book of its script; and the folded ones
-- give the checkpoint's fields.
pub record IsSeen (s : ExecStateView) : Type 0 where
  pub none : s.chosen ≡ None
  pub keeps : ExecInvariant s
  pub knows : BookKnown
  pub facts : BookFacts
  pub script_is : facts.script ≡ s.script
  pub history : HasHistory knows facts
  pub past : List RecordView
  pub part : past ++ s.journal ≡ records_of s.executor history.blocks
  pub folded : s.checkpoint.folded ≡ map folded_of past
  pub replayed : s.checkpoint.fields ≡ replay s.script (executor_start s.script s.executor) past

-- A free state, whose seat has taken a book, is seen so.
abbrev pub FreeAreSeen : Type 0
FreeAreSeen = (s : ExecStateView) (seat : BookSeatView) (facts : BookFacts) → s.chosen ≡ None → ExecInvariant s → IsSeatFor s seat → Knows seat.knows facts → IsSeen s

-- What a look did that answers so. It made two steps, which found what they found: the first took the executor's state out of the word,
-- which is seen so, and the second gave it back as it was, and says whether jobs are left. Or a worker held the state.
abbrev pub Looks : InboxView → LookOutcome → DeskView → DeskView → Type 0
Looks i (Free left) old new =
    ((r : TakenView) × (new.moved ≡ image_of r ∷ image_of r ∷ old.moved) × IsFree i r × IsSeen r.state)
    × ((pending n : ℕ) × FoundFree old.found new.found pending n × ((left ≡ More) ↔ (0 < n / 2)))
Looks i Busy old new = (new.moved ≡ old.moved) × FoundRunning old.found new.found
