use Rattle.swift_executor.proofs.SeatKept.{free_seen}
use Rattle.swift_executor.proofs.laws.free_executors_stand_in_a_history.Goals as goal

pub returns : goal.returns
returns c = free_seen
