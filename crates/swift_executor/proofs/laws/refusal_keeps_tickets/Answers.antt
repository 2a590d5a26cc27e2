use Rattle.swift_executor.proofs.SeatKept.{back_knows}
use Rattle.swift_executor.proofs.laws.refusal_keeps_tickets.Goals as goal

pub returns : goal.returns
returns c = back_knows
