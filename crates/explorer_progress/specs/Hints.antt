-- What is promised of a hint (our own).
use Rattle.std.specs.Prelude.{◌≡◌, List}
use Rattle.swift_script.specs.Scripts.{ScriptView}
use Rattle.swift_history.specs.Histories.{IsLegal}
use Rattle.swift_certificate.specs.Reports.{report_view}
use Rattle.swift_report.specs.declared.report.Report.{Report}
use Rattle.swift_explorer.specs.declared.moves.Move.{Move}
use Rattle.swift_explorer.specs.Completions.{IsWhole}
use Rattle.swift_explorer.specs.Outcomes.{IsLogOf}
use Rattle.explorer_progress.specs.declared.hint.NoProgress.{NoProgress}
use Rattle.explorer_progress.specs.Rounds.{IsRound}

-- A report is a legal one of a script, and its log is that of these steps.
pub record IsReportOf (script : ScriptView) (steps : List Move) (report : Report) : Type 0 where
  pub legal : IsLegal script (report_view report)
  pub log : IsLogOf script steps report.log.events

-- The steps of its schedule can be done, and others after them. Of the run that all of these make, its endings are those, and its tasks
-- those of the schedule's last turns, which repeat.
pub record IsHint (script : ScriptView) (hint : NoProgress) : Type 0 where
  pub whole : List Move
  pub done : IsWhole script hint.schedule.items whole
  pub report : Report
  pub is : IsReportOf script whole report
  pub endings : hint.endings.items ≡ report.endings.items
  pub round : IsRound script report whole hint
