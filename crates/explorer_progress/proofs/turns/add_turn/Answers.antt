use Rattle.std.proofs.Common.{◌≡◌, ℕ, ◌+◌, ◌++◌, ◌∷◌, List, [], get_or, subst, sym, refl, ◌∙◌}
use Rattle.std.proofs.lemmas.List.{get_or_default}
use Rattle.swift_explorer.specs.declared.moves.Move.TheVariants as step
use Rattle.explorer_progress.specs.declared.turns.TurnAt.{TurnAt}
use Rattle.explorer_progress.specs.HintsInside.{AreTurnsTo}
use Rattle.explorer_progress.proofs.Places.{none_added, turn_added}
use Rattle.explorer_progress.proofs.turns.add_turn.Goals as goal

pub returns-in_ok-push-in-Run : goal.returns-in_ok-push-in-Run
returns-in_ok-push-in-Run c = λ yes.
    let report = c.args.report.now in
    let steps = c.args.schedule.now in
    let i = c.args.step in
    let task = c.in-Run.task in
    let turn = c.in-Some.turn in
    let turns = c.args.turns.now.items in
    let run = c.args.found.now.run.items in
    let told = c.in-Some.ensures in
    let is : step.Run task ≡ get_or steps i (step.Run task) = sym (get_or_default steps i (step.Run task) _ c.requires.within ∙ c.in-Run.is) in
    let all = turn_added report steps i (step.Run task) task turns run turn c.requires.within is refl c.requires.before told.step.0 told.step.1 told.within told.there in
    subst (λ (ts : List TurnAt). AreTurnsTo report steps (i + 1) ts c.find_turn.new.found.run.items) (sym c.in_ok-push-in-Run.ensures.items)
    (subst (λ (counts : List ℕ). AreTurnsTo report steps (i + 1) (turns ++ turn ∷ []) counts) (sym told.more) all)

pub returns-in-Add : goal.returns-in-Add
returns-in-Add c = λ yes.
    let steps = c.args.schedule.now in
    let i = c.args.step in
    none_added c.args.report.now steps i step.Add _ _ c.requires.within (sym (get_or_default steps i step.Add _ c.requires.within ∙ c.in-Add.is)) refl c.requires.before

pub returns-in-Begin : goal.returns-in-Begin
returns-in-Begin c = λ yes.
    let steps = c.args.schedule.now in
    let i = c.args.step in
    none_added c.args.report.now steps i (step.Begin c.in-Begin.field-0) _ _ c.requires.within (sym (get_or_default steps i (step.Begin c.in-Begin.field-0) _ c.requires.within ∙ c.in-Begin.is)) refl c.requires.before
