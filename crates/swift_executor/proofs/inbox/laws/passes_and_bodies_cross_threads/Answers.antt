use Rattle.swift_executor.proofs.InboxCrossesThreads.{pass_send, taker_send, body_send}
use Rattle.swift_executor.proofs.inbox.laws.passes_and_bodies_cross_threads.Goals as goal

pub returns-clause-pass : goal.returns-clause-pass
returns-clause-pass c = pass_send

pub returns-clause-taker : goal.returns-clause-taker
returns-clause-taker c = taker_send

pub returns-clause-body : goal.returns-clause-body
returns-clause-body c = body_send
