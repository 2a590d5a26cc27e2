use Rattle.swift_executor.proofs.CrossesThreads.{exec_sync}
use Rattle.swift_executor.proofs.laws.threads_share_an_executor.Goals as goal

pub returns : goal.returns
returns c = exec_sync
