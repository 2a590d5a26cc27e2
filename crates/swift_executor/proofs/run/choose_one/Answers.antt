use Rattle.swift_executor.proofs.SeatKept.{stayed_counted}
use Rattle.swift_executor.proofs.Visits.{lacks_by, none_by, picks_by}
use Rattle.swift_executor.proofs.run.choose_one.Goals as goal

pub choose-requires-clause-stayed : goal.choose-requires-clause-stayed
choose-requires-clause-stayed c =
    let seat = c.requires.seat in
    λ le. stayed_counted c.args.state.now seat.0 c.args.book.now.log c.levels_changed-changed.result c.levels.result.now seat.1 seat.2 c.levels_changed-changed.ensures c.levels.ensures.levels le

pub returns-clause-some : goal.returns-clause-some
returns-clause-some c = picks_by _ _ _ _ c.levels.ensures.levels c.choose.result c.choose.ensures.some

pub returns-clause-none : goal.returns-clause-none
returns-clause-none c = none_by _ _ _ _ c.levels.ensures.levels c.choose.result c.choose.ensures.none

pub returns-clause-err : goal.returns-clause-err
returns-clause-err c = lacks_by _ _ _ _ c.levels.ensures.levels _ c.choose.result c.choose.ensures.err
