use denote.Param.Send.{sendable}
use Rattle.swift_executor.proofs.CrossesThreads.{book_lock_sync}
use Rattle.swift_executor.proofs.InboxCrossesThreads.{inbox_sync, pass_send}
use Rattle.test_executors.proofs.CrossesThreads.{ticketed_jobs_send}
use Rattle.test_executors.proofs.inbox.by_two_threads.Goals as goal

pub join-requires-send-F : goal.join-requires-send-F
join-requires-send-F g c κs within = search (sendable, inbox_sync, book_lock_sync, pass_send, ticketed_jobs_send) depth 20
