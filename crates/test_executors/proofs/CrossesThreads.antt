-- Jobs with their tickets may go to another thread. Who starts a thread with them lists this beside `sendable`.
use denote.Param.Send.{IsSend, sendable}
use Rattle.std.proofs.Crossing as Crossing
use Rattle.swift_executor.proofs.InboxCrossesThreads.{body_send}
use Rattle.swift_executor.proofs.CrossesThreads.{book_seat_send}
use Rattle.swift_shared_book.specs.contracts.jobs.TicketedJobs as ticketed_jobs

-- what is made of types that were shown before
ruleset plain = (Crossing.crosses, sendable)

pub ticketed_jobs_send : IsSend ticketed_jobs.the_row
ticketed_jobs_send = search (plain, body_send, book_seat_send) depth 60 fits 20000
