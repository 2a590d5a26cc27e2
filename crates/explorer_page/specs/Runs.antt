-- The runs that a page shows (our own).
use Rattle.std.specs.Prelude.{◌≡◌, List, [], ◌∷◌}
use Rattle.swift_script.specs.Scripts.{ScriptView}
use Rattle.swift_history.specs.Histories.{IsLegal}
use Rattle.swift_certificate.specs.Reports.{report_view}
use Rattle.swift_report.specs.declared.report.Report.{Report}
use Rattle.swift_explorer.specs.declared.outcome.RunOutcome.{RunOutcome}
use Rattle.swift_explorer.specs.Outcomes.{IsLogOf}

-- A report is that of an outcome's schedule: it is legal, and its log is that of the schedule's steps.
pub record IsRunOf (script : ScriptView) (outcome : RunOutcome) (run : Report) : Type 0 where
  pub legal : IsLegal script (report_view run)
  pub log : IsLogOf script outcome.schedule.items run.log.events

-- These reports are those of these outcomes' schedules, in order.
abbrev pub AreRuns : ScriptView → List RunOutcome → List Report → Type 0
AreRuns script [] [] = Unit {0}
AreRuns script (o ∷ os) (r ∷ rs) = IsRunOf script o r × AreRuns script os rs
AreRuns script _ _ = ⊥
