use Rattle.nuchapay.proofs.Prelude.{◌≡◌, ◌∙◌, false, ap, subst, arc_value, ScriptView, report_text, end_well}
use Rattle.nuchapay_runs.specs.Notes.{IsAnnotated}
use Rattle.nuchapay.proofs.OfRun.{run_of}
use Rattle.nuchapay.proofs.values.report_of.Goals as goal

pub returns : goal.returns
returns g c =
    let script = c.in_ok-script.script in
    let report = c.in_ok-script.report in
    let well : c.all_ended_well-is_well.result ≡ end_well report.endings.items = c.all_ended_well-is_well.ensures ∙ ap end_well c.deref.ensures.value in
    record {
      text = report_text (arc_value script) report false;
      is = run_of c.args.text.now (arc_value script) report false c.all_ended_well-is_well.result c.in_ok-script.ensures well;
      noted = subst (λ (p : ScriptView). IsAnnotated (report_text p report false) c.in_ok-text.text.items) c.deref-2.ensures c.in_ok-text.ensures.annotated;
    }
