use Rattle.swift_executor.proofs.SeatKept.{chose_knows, lacked_knows, none_knows}
use Rattle.swift_executor.proofs.laws.choose_keeps_tickets.Goals as goal

pub returns-clause-some : goal.returns-clause-some
returns-clause-some c = chose_knows

pub returns-clause-err : goal.returns-clause-err
returns-clause-err c = lacked_knows

pub returns-clause-none : goal.returns-clause-none
returns-clause-none c = none_knows
