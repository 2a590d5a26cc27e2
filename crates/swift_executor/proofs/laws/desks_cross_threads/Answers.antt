use Rattle.swift_executor.proofs.CrossesThreads.{desk_send}
use Rattle.swift_executor.proofs.laws.desks_cross_threads.Goals as goal

pub returns : goal.returns
returns c = desk_send
