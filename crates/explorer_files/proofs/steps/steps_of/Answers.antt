use Rattle.std.proofs.Common.{◌∙◌, ◌++◌, ◌∷◌, [], List, take, map, subst, sym, ap}
use Rattle.std.proofs.lemmas.List.{map_more}
use Rattle.serde_json.specs.Data.{Data}
use Rattle.serde_json.specs.View.{view}
use Rattle.swift_explorer.specs.declared.moves.Move.{Move}
use Rattle.explorer_files.specs.Steps.{AreSavedSteps}
use Rattle.explorer_files.proofs.Stepping.{saved_more}
use Rattle.explorer_files.proofs.steps.steps_of.Goals as goal

pub loop-value-preserved : goal.loop-value-preserved
loop-value-preserved c =
    let values = c.args.values.now in
    let k = c.loop-value.value-index in
    let x = c.value-item.result in
    let front = map view (take k values) in
    let more : AreSavedSteps (front ++ view x ∷ []) c.push.new.self.items =
    subst (λ (steps : List Move). AreSavedSteps (front ++ view x ∷ []) steps) (sym c.in_ok-push-in-Some.ensures.items)
    (saved_more front c.loop-value.steps.items (view x) c.in-Some.step c.loop-value.invariant c.in-Some.ensures) in
    subst (λ (ds : List Data). AreSavedSteps ds c.push.new.self.items)
    (ap (λ v. front ++ view v ∷ []) c.value-item.is ∙ sym (map_more view values k x c.loop-value-test.true)) more
