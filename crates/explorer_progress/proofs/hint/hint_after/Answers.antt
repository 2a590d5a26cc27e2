use Rattle.std.proofs.Common.{List, IfSome, subst}
use Rattle.std.specs.Arc.{arc_value}
use Rattle.swift_explorer.specs.declared.completion.Completion.{Completion}
use Rattle.swift_explorer.specs.declared.moves.Move.{Move}
use Rattle.swift_explorer.specs.Completions.{IsCompletion, IsWhole}
use Rattle.explorer_progress.specs.HintsInside.{IsIn}
use Rattle.explorer_progress.proofs.Prefixes.{some_hint}
use Rattle.explorer_progress.proofs.hint.hint_after.Goals as goal

pub returns-in_ok-found-in-Whole : goal.returns-in_ok-found-in-Whole
returns-in_ok-found-in-Whole c =
    let script = arc_value c.args.script.now in
    let found = c.in_ok-found-in-Whole.found in
    let whole : IsWhole script c.args.start.now c.in-Whole.whole.items = subst (λ (r : Completion). IsCompletion script c.args.start.now r) c.in-Whole.is c.in_ok-whole.ensures in
    some_hint script c.args.start.now c.in-Whole.whole.items found whole
    (subst (λ (w : List Move). IfSome found (IsIn script w)) c.deref.ensures.value c.in_ok-found-in-Whole.ensures)
