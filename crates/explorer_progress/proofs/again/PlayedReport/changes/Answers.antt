use Rattle.std.proofs.Common.{◌≡◌, List, Some, length, slice_get, subst, ap, sym, refl, ◌∙◌}
use Rattle.std.specs.Global.{Vec}
use Rattle.std.proofs.lemmas.Option.{slice_get_read}
use Rattle.run_pictures.specs.declared.values.change.TurnValues.{TurnValues}
use Rattle.explorer_progress.proofs.Places.{changes_found}
use Rattle.explorer_progress.proofs.again.PlayedReport.changes.Goals as goal

pub returns : goal.returns
returns c = λ script played.
    let run = c.args.self.now in
    let turn = c.args.turn in
    let done = c.in_ok-turns.turns.now in
    let v = c.in_ok-values.values.now in
    let at = subst (λ (xs : List (Vec TurnValues)). slice_get xs turn.executor ≡ Some done) c.deref.ensures.value (slice_get_read c.deref.result.now (length c.deref.result.now) turn.executor done refl c.in_ok-turns.ensures.lookup.3.0 c.in_ok-turns.ensures.lookup.1) in
    let there = subst (λ (xs : List TurnValues). slice_get xs turn.place ≡ Some v) c.deref-2.ensures.value (slice_get_read c.deref-2.result.now (length c.deref-2.result.now) turn.place v refl c.in_ok-values.ensures.lookup.3.0 c.in_ok-values.ensures.lookup.1) in
    changes_found script run.report run.values.items turn.executor turn.place done v played at there ∙ ap Some (sym c.deref-3.ensures.value)
