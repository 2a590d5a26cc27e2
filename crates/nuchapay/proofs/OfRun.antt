-- The text of a report that is of a run.
use Rattle.nuchapay.proofs.Prelude.{◌≡◌, ℕ, Bool, List, refl, ScriptView, report_text, IsRunOf, end_well}
use Rattle.swift_report.specs.declared.report.Report.{Report}
use Rattle.nuchapay.specs.Runs.{IsReportOf}

pub run_of : (bytes : List ℕ) (script : ScriptView) (report : Report) (quiet well : Bool) → IsReportOf bytes script report → well ≡ end_well report.endings.items → IsRunOf bytes quiet (report_text script report quiet) well
run_of bytes script report quiet well is ended = record {
  script = script;
  report = report;
  accepted = is.accepted;
  legal = is.legal;
  whole = is.whole;
  replayed = is.replayed;
  journals = is.journals;
  checkpoints = is.checkpoints;
  fields = is.fields;
  invariants = is.invariants;
  endings = is.endings;
  ended = ended;
  printed = refl;
}
