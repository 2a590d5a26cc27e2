-- What holds of each turn of a run, of those too that a checkpoint has folded: by the whole report, of which that of the run is the fold
-- (SE-0304 for priorities, SE-0311 for bindings; the rest is our own).
use Rattle.std.specs.Prelude.{◌≡◌, ℕ, ◌<◌, length}
use Rattle.swift_script.specs.Scripts.{ScriptView}
use Rattle.swift_script.specs.Accepted.{WasAccepted}
use Rattle.swift_journal.specs.Checkpoints.{FoldedView, folded_of}
use Rattle.swift_journal.specs.Records.{RecordView}
use Rattle.swift_history.specs.Histories.{ReportView}
use Rattle.swift_course.specs.Whole.{HasWhole}
use Rattle.swift_laws.specs.Laws.{BeginsIn, IsFolded, IsRecord, turns_of}
use Rattle.swift_laws.specs.Inherited.{FindsInherited}

-- A turn of a run is known: the whole report has its record, in one place alone. It has begun with the priority that its task had at that
-- point of the log, and finds the bindings that it inherits.
pub record IsKnownTurn (script : ScriptView) (report : ReportView) (w : HasWhole script report) (t n : ℕ) : Type 0 where
  pub executor : ℕ
  pub place : ℕ
  pub turn : RecordView
  pub is : IsRecord w.whole executor place turn
  pub task : turn.task ≡ t
  pub number : turn.number ≡ n
  pub begins : BeginsIn script report.log t n turn.env
  pub finds : FindsInherited script w.legal.legal.blocks executor turn
  pub once : (e i : ℕ) (r : RecordView) → IsRecord w.whole e i r → r.task ≡ t → r.number ≡ n → (e ≡ executor) × (i ≡ place)

-- Each turn that the log of a run of an accepted script applies is.
abbrev pub AllTurnsAreKnown : Type 0
AllTurnsAreKnown = (script : ScriptView) (report : ReportView) (w : HasWhole script report) (t n : ℕ) → WasAccepted script
    → n < length (turns_of t report.log) → IsKnownTurn script report w t n

-- A folded turn of a run's report is what a fold leaves of the record at that place of the whole report: it has that record's exit and
-- effects, and the frame that the turn has left.
abbrev pub FoldedTurnsAreKnown : Type 0
FoldedTurnsAreKnown = (script : ScriptView) (report : ReportView) (w : HasWhole script report) (e i : ℕ) (f : FoldedView)
    → IsFolded report e i f → (r : RecordView) × IsRecord w.whole e i r × (f ≡ folded_of r)
