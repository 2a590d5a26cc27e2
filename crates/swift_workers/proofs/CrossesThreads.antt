-- What a worker has of its own may go to another thread, and what the workers share may be shared.
use denote.Param.Send.{IsSend, IsSync, sendable}
use denote.Ref.{NamedLft}
use Rattle.std.proofs.Crossing as Crossing
use Rattle.swift_executor.proofs.InboxCrossesThreads.{body_send, script_send, script_sync}
use Rattle.swift_executor.proofs.CrossesThreads.{book_lock_sync, book_seat_send, desk_send, exec_sync}
use Rattle.swift_shared_book.specs.contracts.jobs.TicketedJobs as ticketed_jobs
use Rattle.swift_workers.specs.contracts.crew.Crew as crew
use Rattle.swift_workers.specs.contracts.crew.Hand as hand
use Rattle.swift_workers.specs.contracts.pool.Pool as pool
use Rattle.swift_workers.specs.contracts.bell.Bell as bell
use Rattle.swift_shared_book.proofs.lock.Lock.TheSendSync as Lock
use Rattle.swift_shared_book.proofs.lock.seat.LockSeat.TheSendSync as LockSeat
use Rattle.swift_workers.specs.contracts.shared_pool.SharedPool as shared_pool
use Rattle.swift_shared_book.specs.contracts.lock.seat.LockSeat as seat
use Rattle.swift_workers.specs.contracts.known.PoolImage as image
use Rattle.swift_workers.specs.contracts.known.PoolTold as told
use Rattle.swift_workers.specs.contracts.shelf.PoolShelf as shelf
use Rattle.swift_workers.specs.contracts.shelf.PoolShelfLocked as locked

-- what is made of types that were shown before
ruleset plain = (Crossing.crosses, sendable)

pool_send : IsSend (pool.the_field).row
pool_send = search plain depth 60 fits 20000

bell_sync : IsSync (bell.the_field).row
bell_sync = search plain depth 60 fits 20000

shelf_send : IsSend (shelf.the_field).row
shelf_send = search (plain, pool_send, script_send, script_sync) depth 60 fits 20000

shared_pool_sync : IsSync shared_pool.the_row
shared_pool_sync = search (plain, shelf_send, bell_sync, Lock.the_sync) depth 60 fits 20000

pub pool_seat_send : IsSend (seat.the_row shelf.the_row told.the_row image.the_row locked.TheImpl.ghosts)
pool_seat_send = search (plain, shelf_send, LockSeat.the_send) depth 60 fits 20000

-- jobs with their tickets
pub ticketed_jobs_send : IsSend ticketed_jobs.the_row
ticketed_jobs_send = search (plain, body_send, book_seat_send) depth 60 fits 20000

pub hand_send : IsSend (hand.the_field).row
hand_send = search (plain, desk_send, ticketed_jobs_send) depth 60 fits 20000

pub crew_send : (α : NamedLft) → IsSend (crew.the_field α).row
crew_send α = search (plain, script_sync, exec_sync, book_lock_sync, shared_pool_sync) depth 60 fits 20000
