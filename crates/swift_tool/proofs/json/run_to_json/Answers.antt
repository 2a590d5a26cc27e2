use Rattle.swift_tool.proofs.Prelude.{◌≡◌, refl, ap, subst, ◌∙◌, arc_value, ScriptView, executor_count, root_count, IsOrderlyLegal, HasWhole, report_view, AreEndings, AreReplayed, KeepInvariants, report_text, end_well, report_json}
use Rattle.swift_tool.proofs.Invariants.{invariants_hold}
use Rattle.swift_tool.proofs.json.run_to_json.Goals as goal

pub returns-clause-text : goal.returns-clause-text
returns-clause-text g c =
    let made : arc_value c.in_ok-script.script ≡ c.in_ok-found.found = c.in_ok-script.ensures.ok in
    let shared : arc_value c.in_ok-shared.shared ≡ arc_value c.in_ok-script.script = c.in_ok-shared.ensures.cases in
    let lent : c.deref.result.now ≡ arc_value c.in_ok-script.script = c.deref.ensures in
    let same = shared ∙ made in
    record {
      plain = report_text c.in_ok-found.found c.in_ok-report.report c.args.quiet;
      of = record {
        script = c.in_ok-found.found;
        report = c.in_ok-report.report;
        accepted = c.in_ok-found.ensures.found;
        legal = subst (λ (p : ScriptView). IsOrderlyLegal p (report_view c.in_ok-report.report)) same c.in_ok-report.ensures.orderly;
        whole = subst (λ (p : ScriptView). HasWhole p (report_view c.in_ok-report.report)) same c.in_ok-report.ensures.whole;
        replayed = subst (λ (p : ScriptView). AreReplayed p 0 c.in_ok-report.report.checkpoints.items c.in_ok-report.report.journals.items c.in_ok-report.report.fields.items) same c.in_ok-report.ensures.lawful;
        journals = c.in_ok-report.ensures.journals ∙ ap executor_count same;
        checkpoints = c.in_ok-report.ensures.checkpoints ∙ ap executor_count same;
        fields = c.in_ok-report.ensures.fields ∙ ap executor_count same;
        invariants = invariants_hold c.in_ok-found.found c.in_ok-report.report.fields.items c.facts.ensures.starts (subst (λ (p : ScriptView). KeepInvariants p 0 c.in_ok-report.report.fields.items) same c.in_ok-report.ensures.invariants);
        endings = subst (λ (p : ScriptView). AreEndings (root_count p) c.in_ok-report.report.log.events c.in_ok-report.report.endings.items) same c.in_ok-report.ensures.endings;
        ended = c.all_ended_well-is_well.ensures ∙ ap end_well c.deref-2.ensures.value;
        printed = refl;
      };
      is = c.in_ok-text.ensures ∙ ap (λ (p : ScriptView). report_json p c.in_ok-report.report c.args.quiet) (lent ∙ made);
    }
