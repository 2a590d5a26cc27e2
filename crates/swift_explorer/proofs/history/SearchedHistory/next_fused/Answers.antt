use Rattle.swift_explorer.proofs.Prelude.{rules, List, subst, Move, ArePlansOf, HasEachMove}
use Rattle.swift_explorer.proofs.LooksAway.{each_step}
use Rattle.swift_explorer.proofs.history.SearchedHistory.next_fused.Goals as goal

pub returns-in_ok-plans_of-in-Some : goal.returns-in_ok-plans_of-in-Some
returns-in_ok-plans_of-in-Some c = λ told.
    (let x = c.args.self.now in
    let moves = c.in-Some.moves.items in
    let steps = c.in_ok-plans_of-in-Some.field-0.items in
    let each : HasEachMove x moves = search rules in
    each_step x moves steps each (subst (λ (ms : List Move). ArePlansOf x ms steps) c.deref.ensures.value (c.in_ok-plans_of-in-Some.ensures told)))
