use Rattle.std.proofs.Common.{◌∙◌, ◌++◌, ◌∷◌, [], List, take, subst, sym, ap}
use Rattle.std.specs.Arc.{arc_value}
use Rattle.std.proofs.lemmas.List.{take_more}
use Rattle.swift_report.specs.declared.report.Report.{Report}
use Rattle.swift_explorer.specs.declared.outcome.RunOutcome.{RunOutcome}
use Rattle.explorer_page.specs.Runs.{AreRuns}
use Rattle.explorer_page.proofs.Running.{runs_more}
use Rattle.explorer_page.proofs.runs.runs_of.Goals as goal

pub loop-outcome-preserved : goal.loop-outcome-preserved
loop-outcome-preserved c =
    let p = arc_value c.args.script.now in
    let outcomes = c.args.outcomes.now in
    let k = c.loop-outcome.outcome-index in
    let o = c.outcome-item.result in
    let front = take k outcomes in
    let more : AreRuns p (front ++ o ∷ []) c.push.new.self.items =
    subst (λ (rs : List Report). AreRuns p (front ++ o ∷ []) rs) (sym c.in_ok-push.ensures.items)
    (runs_more p front c.loop-outcome.runs.items o c.in_ok-run.run' c.loop-outcome.invariant c.in_ok-run.ensures) in
    subst (λ (os : List RunOutcome). AreRuns p os c.push.new.self.items)
    (ap (λ (x : RunOutcome). front ++ x ∷ []) c.outcome-item.is ∙ sym (take_more outcomes k o c.loop-outcome-test.true)) more
