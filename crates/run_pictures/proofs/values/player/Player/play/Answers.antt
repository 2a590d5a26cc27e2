use Rattle.run_pictures.proofs.Prelude.{ℤ, List, ap, ◌∙◌, Vec, rows_of, terms_of, owned_view, outcome_of, played_turn}
use Rattle.swift_interpreter.specs.TurnStates.{exit_view}
use Rattle.run_pictures.proofs.Keeping.{after_turn}
use Rattle.run_pictures.proofs.values.player.Player.play.Goals as goal

pub returns-clause-fields : goal.returns-clause-fields
returns-clause-fields c =
    let script = c.args.script.now in
    let before = rows_of c.args.self.now.fields.items in
    let r = owned_view c.args.found in
    let invariants = terms_of c.invariants_of-invariants.result.now in
    let exit = exit_view c.in_ok-exit.exit in
    let left = rows_of c.play.new.turn.fields.items in
    after_turn script before r c.became-outcome.result invariants exit left _
    c.invariants_of-invariants.ensures
    (c.in_ok-exit.ensures.exit ∙ ap (λ (f : List (List ℤ)). (played_turn script f r).exit) c.requires)
    (c.in_ok-exit.ensures.fields ∙ ap (λ (f : List (List ℤ)). (played_turn script f r).state.fields) c.requires)
    (c.became-outcome.ensures ∙ ap (λ (rows : List (Vec ℤ)). outcome_of invariants exit (rows_of rows)) c.deref-3.ensures.value)
    c.in_ok-settle.ensures.fields
