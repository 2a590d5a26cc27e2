use Rattle.swift_executor.proofs.Prelude.{false, map, sym, subst, inr, err_from_is_err_and, job_facts, HasChosen, IsBegun, TakenView, taken_of, IsNotEnded}
use Rattle.swift_executor.proofs.SeatKept.{played_knows}
use Rattle.swift_executor.proofs.Visits.{is_played}
use Rattle.swift_executor.proofs.VisitSteps.{cannot_end, cannot_play, finishes_one}
use Rattle.swift_executor.proofs.run.finish_one.Goals as goal

pub turn-requires-clause-played : goal.turn-requires-clause-played
turn-requires-clause-played g c = is_played c.held.inside.state c.play.new.self c.in_ok-play.ensures.ok

pub turn-requires-clause-known : goal.turn-requires-clause-known
turn-requires-clause-known g c = played_knows c.held.inside.state c.play.new.self c.held.inside.seat c.held.invariant.is_of.2 c.in_ok-play.ensures.ok

pub invariant_of-held : goal.invariant_of-held
invariant_of-held g c =
    let x = c.held.inside in
    let r = taken_of x.state x.taker x.seat x.is_orderly in
    let begun = subst (λ (v : TakenView). HasChosen v.state (λ c. IsBegun c.stage)) (sym c.held.view_is) c.requires.begun in
    (cannot_play r c.held.invariant begun c.play.new.self _ c.in_err-play.ensures.back c.in_err-play.ensures.refused).together

pub invariant_of-held-in_err-turn : goal.invariant_of-held-in_err-turn
invariant_of-held-in_err-turn g c =
    let x = c.held.inside in
    let r = taken_of x.state x.taker x.seat x.is_orderly in
    let begun = subst (λ (v : TakenView). HasChosen v.state (λ c. IsBegun c.stage)) (sym c.held.view_is) c.requires.begun in
    (cannot_end r c.held.invariant begun c.play.new.self c.turn.new.self c.turn.new.seat _ c.in_ok-play.ensures.ok c.in_err-turn.ensures.back c.in_err-turn.ensures.err.1 c.in_err-turn.ensures.refused).together

pub returns-in_err-turn-clause-refused : goal.returns-in_err-turn-clause-refused
returns-in_err-turn-clause-refused g c =
    let x = c.held.inside in
    let r = taken_of x.state x.taker x.seat x.is_orderly in
    let new = taken_of c.turn.new.self x.taker c.turn.new.seat false in
    let begun = subst (λ (v : TakenView). HasChosen v.state (λ c. IsBegun c.stage)) (sym c.held.view_is) c.requires.begun in
    let p = err_from_is_err_and c.from_residual-in_err-turn.result c.from_residual-in_err-turn.ensures.1 in
    rw (p.1, p.2) (subst (λ (v : TakenView). IsNotEnded v c.in_err-turn.field-0.0 new) c.held.view_is
    (inr (cannot_end r c.held.invariant begun c.play.new.self c.turn.new.self c.turn.new.seat _ c.in_ok-play.ensures.ok c.in_err-turn.ensures.back c.in_err-turn.ensures.err.1 c.in_err-turn.ensures.refused).does.why))

pub invariant_of-held-2 : goal.invariant_of-held-2
invariant_of-held-2 g c =
    let x = c.held.inside in
    let r = taken_of x.state x.taker x.seat x.is_orderly in
    let begun = subst (λ (v : TakenView). HasChosen v.state (λ c. IsBegun c.stage)) (sym c.held.view_is) c.requires.begun in
    (finishes_one r c.held.invariant begun (map job_facts c.args.jobs.now.jobs) (map job_facts c.turn.new.jobs.jobs) c.play.new.self c.turn.new.self c.turn.new.seat c.in_ok-play.ensures.ok c.in_ok-turn.ensures.ok c.turn.ensures.known c.in_ok-turn.ensures.told c.in_ok-turn.ensures.order).together
