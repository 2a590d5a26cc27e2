-- What the definitions see of a report.
use Rattle.std.specs.Prelude.{map}
use Rattle.script_code.specs.Seen.{rows_of}
use Rattle.swift_history.specs.Histories.{ReportView}
use Rattle.swift_report.specs.declared.report.Report.{Report}

-- its parts, without addresses
abbrev pub report_view : Report → ReportView
report_view r = record {
  journals = r.journals.items;
  checkpoints = map (λ c. c.view) r.checkpoints.items;
  fields = map (λ rows. rows_of rows.items) r.fields.items;
  log = r.log.events;
  endings = r.endings.items;
}
