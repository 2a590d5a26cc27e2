-- The first steps of a schedule that can be done.
use Rattle.std.proofs.Common.{◌≡◌, ℕ, Option, Some, None, List, ◌++◌, take, drop, sym, ap, ◌∙◌}
use Rattle.std.specs.Prelude.{IfSome}
use Rattle.std.proofs.lemmas.List.{take-append-drop}
use Rattle.swift_script.specs.Scripts.{ScriptView}
use Rattle.swift_explorer.specs.declared.moves.Move.{Move}
use Rattle.swift_explorer.specs.Completions.{IsWhole}
use Rattle.explorer_progress.specs.declared.again.PlayedReport.{PlayedReport}
use Rattle.explorer_progress.specs.declared.hint.NoProgress.{NoProgress}
use Rattle.explorer_progress.specs.Hints.{IsHint, IsReportOf}
use Rattle.explorer_progress.specs.HintsInside.{Begins, IsIn, IsOf, IsPlayed}

pub begins_take : (many : ℕ) (whole steps : List Move) → steps ≡ take many whole → Begins steps whole
begins_take many whole steps is = (drop many whole, sym (take-append-drop many whole) ∙ ap (λ (xs : List Move). xs ++ drop many whole) (sym is))

-- a hint of a report is of the steps that make it
pub of_report : (script : ScriptView) (whole : List Move) (run : PlayedReport) (found : Option NoProgress)
    → IsReportOf script whole run.report → IsPlayed script run → IfSome found (IsOf run whole) → IfSome found (IsIn script whole)
of_report script whole run None is played of = tt
of_report script whole run (Some hint) is played of = record { report = run.report; is = is; begins = of.begins; endings = of.endings; round = of.round script played }

whole_begins : (script : ScriptView) (start whole : List Move) (hint : NoProgress) → IsWhole script start whole → IsIn script whole hint → IsHint script hint
whole_begins script start whole hint done is = record {
  whole = whole;
  done = record { rest = is.begins.0; begins = is.begins.1; log = done.log; done = done.done };
  report = is.report;
  is = is.is;
  endings = is.endings;
  round = is.round;
}

-- so it is of a hint that was found, if one was
pub some_hint : (script : ScriptView) (start whole : List Move) (found : Option NoProgress) → IsWhole script start whole → IfSome found (IsIn script whole) → IfSome found (IsHint script)
some_hint script start whole None done is = tt
some_hint script start whole (Some hint) done is = whole_begins script start whole hint done is
