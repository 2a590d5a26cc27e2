-- Reports of which no turn is forgotten (our own). An executor folds its first turns into a checkpoint, which has no frames, resumes or
-- environments of them; the report of a run has what it has printed, and is the fold of a whole report that has each turn.
use Rattle.std.specs.Prelude.{◌≡◌, ℕ, Some, List, ◌++◌, length, map, slice_get}
use Rattle.swift_script.specs.Scripts.{ScriptView, executor_count, executor_start, root_count}
use Rattle.swift_journal.specs.Checkpoints.{CheckpointView, folded_of}
use Rattle.swift_journal.specs.Records.{RecordView}
use Rattle.swift_history.specs.Replay.{replay}
use Rattle.swift_history.specs.Histories.{ReportView}
use Rattle.swift_history.specs.Orderly.{IsOrderlyLegal}
use Rattle.swift_course.specs.Course.{starts}
use Rattle.swift_course.specs.Reports.{AreAtRest, HasHistory, IsReportOf}
use Rattle.swift_course.specs.Views.{BookFacts, BookKnown}

-- The turns of an executor are those that its checkpoint has folded, whose replay from the start values on gives the checkpoint's fields,
-- and then those of its journal.
pub record AreFoldedInto (script : ScriptView) (e : ℕ) (turns journal : List RecordView) (checkpoint : CheckpointView) : Type 0 where
  pub past : List RecordView
  pub parts : turns ≡ past ++ journal
  pub folded : checkpoint.folded ≡ map folded_of past
  pub fields : checkpoint.fields ≡ replay script (executor_start script e) past

-- A report is the fold of a whole one, in which no turn is folded. Both have the same log, endings and fields, and each executor's turns in
-- the whole one are folded into what the report has of it.
pub record IsFoldOf (script : ScriptView) (whole report : ReportView) : Type 0 where
  pub unfolded : whole.checkpoints ≡ starts script
  pub log : report.log ≡ whole.log
  pub endings : report.endings ≡ whole.endings
  pub fields : report.fields ≡ whole.fields
  pub executors : length report.journals ≡ length whole.journals
  pub checkpoints : length report.checkpoints ≡ length report.journals
  pub turns : (e : ℕ) (turns journal : List RecordView) (checkpoint : CheckpointView) → slice_get whole.journals e ≡ Some turns → slice_get report.journals e ≡ Some journal → slice_get report.checkpoints e ≡ Some checkpoint
      → AreFoldedInto script e turns journal checkpoint

-- A report is the fold of a whole one, and that is legal with its blocks in order: each turn of the run is known, folded or not.
pub record HasWhole (script : ScriptView) (report : ReportView) : Type 0 where
  pub whole : ReportView
  pub legal : IsOrderlyLegal script whole
  pub fold : IsFoldOf script whole report

-- Where a seat has all accounts, by which the turns of each executor have begun in order, and has added all roots, the report of the run
-- has a whole one.
abbrev pub RunsAreWhole : Type 0
RunsAreWhole = (facts : BookFacts) (v : BookKnown) (report : ReportView) → HasHistory v facts
    → v.maker ≡ Some (record { executors = executor_count facts.script; roots = root_count facts.script }) → IsReportOf facts v report
    → AreAtRest (executor_count facts.script) v → HasWhole facts.script report
