use Rattle.run_page.proofs.Prelude.{◌≡◌, ℕ, List, ◌++◌, drop, length, AppendsTold, AreTold, ExplainedTurn, IsToldOfRun, all_explained_json, applied_turns}
use Rattle.run_page.proofs.explanations.explanations.Given as goal

abbrev pub invariant-loop-place : goal.invariant-loop-place
invariant-loop-place l = record {
  told : (rest : List ExplainedTurn) (whole : List ℕ) → AreTold l.script l.report (applied_turns (drop l.place l.report.log.events)) rest → whole ≡ l.out.items ++ all_explained_json rest →
      AppendsTold (IsToldOfRun l.script l.report) all_explained_json l.initial.out.items whole;
  end : l.place-end ≡ length l.report.log.events;
}
