use Rattle.swift_executor.proofs.SeatKept.{played_knows}
use Rattle.swift_executor.proofs.laws.play_keeps_tickets.Goals as goal

pub returns : goal.returns
returns c = played_knows
