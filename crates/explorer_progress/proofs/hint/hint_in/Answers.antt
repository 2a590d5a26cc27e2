use Rattle.std.proofs.Common.{rules}
use Rattle.std.specs.Prelude.{IfSome}
use Rattle.std.specs.Arc.{arc_value}
use Rattle.explorer_progress.specs.Hints.{IsReportOf}
use Rattle.explorer_progress.specs.HintsInside.{IsOf, IsPlayed}
use Rattle.explorer_progress.proofs.Prefixes.{of_report}
use Rattle.explorer_progress.proofs.hint.hint_in.Goals as goal

pub returns : goal.returns
returns c =
    let script = arc_value c.args.script.now in
    let whole = c.args.schedule.now in
    let run = c.in-Some.run' in
    let is : IsReportOf script whole run.report = search rules in
    let played : IsPlayed script run = search rules in
    let of : IfSome c.in_ok-found.found (IsOf run whole) = search rules in
    of_report script whole run c.in_ok-found.found is played of
