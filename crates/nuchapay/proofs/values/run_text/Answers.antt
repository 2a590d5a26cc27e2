use Rattle.nuchapay.proofs.Prelude.{◌≡◌, ap, sym, subst, ◌∙◌, arc_value, IsAccepted, ScriptView, executor_count, root_count, HoldInvariants}
use Rattle.swift_history.specs.Orderly.{IsOrderlyLegal}
use Rattle.swift_course.specs.Whole.{HasWhole}
use Rattle.swift_certificate.specs.Reports.{report_view}
use Rattle.swift_workers.specs.Leaves.{AreEndings, AreReplayed, KeepInvariants}
use Rattle.swift_tool.proofs.Invariants.{invariants_hold}
use Rattle.nuchapay.proofs.values.run_text.Goals as goal

pub returns : goal.returns
returns g c =
    let made : arc_value c.in_ok-script.script ≡ c.in_ok-found.found = c.in_ok-script.ensures.ok in
    let same : arc_value c.in_ok-shared.shared ≡ arc_value c.in_ok-script.script = c.in_ok-shared.ensures.cases in
    let report = c.in_ok-report.report in
    record {
      accepted = subst (IsAccepted c.args.text.now) (sym made) c.in_ok-found.ensures.found;
      legal = subst (λ (p : ScriptView). IsOrderlyLegal p (report_view report)) same c.in_ok-report.ensures.orderly;
      whole = subst (λ (p : ScriptView). HasWhole p (report_view report)) same c.in_ok-report.ensures.whole;
      replayed = subst (λ (p : ScriptView). AreReplayed p 0 report.checkpoints.items report.journals.items report.fields.items) same c.in_ok-report.ensures.lawful;
      journals = c.in_ok-report.ensures.journals ∙ ap executor_count same;
      checkpoints = c.in_ok-report.ensures.checkpoints ∙ ap executor_count same;
      fields = c.in_ok-report.ensures.fields ∙ ap executor_count same;
      invariants = subst (λ (p : ScriptView). HoldInvariants p 0 report.fields.items) (sym made)
          (invariants_hold c.in_ok-found.found report.fields.items c.facts.ensures.starts (subst (λ (p : ScriptView). KeepInvariants p 0 report.fields.items) (same ∙ made) c.in_ok-report.ensures.invariants));
      endings = subst (λ (p : ScriptView). AreEndings (root_count p) report.log.events report.endings.items) same c.in_ok-report.ensures.endings;
    }
