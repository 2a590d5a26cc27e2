-- Runs that were made one after the other.
use Rattle.std.proofs.Common.{List, [], ◌∷◌, ◌++◌}
use Rattle.swift_script.specs.Scripts.{ScriptView}
use Rattle.swift_report.specs.declared.report.Report.{Report}
use Rattle.swift_explorer.specs.declared.outcome.RunOutcome.{RunOutcome}
use Rattle.explorer_page.specs.Runs.{AreRuns, IsRunOf}

-- one run more
pub runs_more : (p : ScriptView) (os : List RunOutcome) (rs : List Report) (o : RunOutcome) (r : Report) → AreRuns p os rs → IsRunOf p o r → AreRuns p (os ++ o ∷ []) (rs ++ r ∷ [])
runs_more p [] [] o r are is = (is, tt)
runs_more p [] (r' ∷ rs) o r are is = absurd are
runs_more p (o' ∷ os) [] o r are is = absurd are
runs_more p (o' ∷ os) (r' ∷ rs) o r are is = (are.0, runs_more p os rs o r are.1 is)
