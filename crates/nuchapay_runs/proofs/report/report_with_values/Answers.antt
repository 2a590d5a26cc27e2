use Rattle.nuchapay_runs.proofs.Prelude.{ℕ, List, sym, subst, false, report_text, IsAnnotated, if_ok}
use Rattle.nuchapay_runs.proofs.Annotated.{noted_is_annotated}
use Rattle.nuchapay_runs.proofs.report.report_with_values.Goals as goal

pub returns-clause-annotated : goal.returns-clause-annotated
returns-clause-annotated c =
    let p = c.args.script.now in
    let r = c.args.report.now in
    if_ok c.noted_report.result (λ said is. subst (λ (text : List ℕ). IsAnnotated (report_text p r false) text) (sym is) (noted_is_annotated p r)) c.noted_report.ensures
