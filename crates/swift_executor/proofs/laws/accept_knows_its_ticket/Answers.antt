use Rattle.swift_executor.proofs.SeatKept.{accepted_knows}
use Rattle.swift_executor.proofs.laws.accept_knows_its_ticket.Goals as goal

pub returns : goal.returns
returns c = accepted_knows
