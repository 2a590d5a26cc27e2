use Rattle.swift_executor.proofs.SeatKept.{new_knows}
use Rattle.swift_executor.proofs.laws.new_knows_no_turn.Goals as goal

pub returns : goal.returns
returns c = new_knows
