-- An executor may be shared by threads, and its state and its desks may go to another. Who starts a thread with one of these
-- lists the lemma that is meant beside `sendable`.
use denote.Param.Send.{IsSend, IsSync, sendable}
use Rattle.std.proofs.Crossing as Crossing
use Rattle.swift_turn.specs.contracts.body.Body as body
use Rattle.swift_interpreter.proofs.turn_state.TurnState.TheSendSync as TurnState
use Rattle.swift_undo.proofs.undo.Undo.TheSendSync as Undo
use Rattle.swift_locals.proofs.bindings.Bindings.TheSendSync as Bindings
use Rattle.swift_turn.proofs.phase.Phase.TheSendSync as Phase
use Rattle.swift_turn.proofs.stack.Stack.TheSendSync as Stack
use Rattle.futures.proofs.task.source.Source.TheSendSync as Source
use Rattle.futures.proofs.task.waker.Waker.TheSendSync as Waker
use Rattle.swift_journal.proofs.journal.Journal.TheSendSync as Journal
use Rattle.swift_journal.proofs.checkpoint.Checkpoint.TheSendSync as Checkpoint
use Rattle.swift_executor.proofs.InboxCrossesThreads.{body_send, inbox_sync, pass_send, script_send, script_sync, taker_send}
use Rattle.swift_executor.proofs.tasks.ReadyTasks.TheSendSync as ReadyTasks
use Rattle.swift_interpreter.proofs.saved.SavedRows.TheSendSync as SavedRows
use Rattle.swift_undo.proofs.rows.InvariantRows.TheSendSync as InvariantRows
use Rattle.swift_executor.specs.contracts.fields.Fields as fields
use Rattle.swift_executor.specs.contracts.home.Home as home
use Rattle.swift_executor.specs.contracts.state.ExecState as state
use Rattle.swift_executor.specs.contracts.resting.Resting as resting
use Rattle.swift_executor.specs.contracts.resting.TakenState as held
use Rattle.swift_executor.specs.contracts.aside.Aside as aside
use Rattle.swift_executor.specs.contracts.chosen.Chosen as chosen
use Rattle.swift_executor.specs.contracts.chosen.PlayedTurn as played
use Rattle.swift_executor.specs.contracts.exec.Spare as spare
use Rattle.swift_executor.specs.contracts.exec.Exec as exec
use Rattle.swift_executor.specs.contracts.desk.Desk as desk
use Rattle.atomic_table.proofs.shared.Seat.TheSendSync as Seat
use Rattle.atomic_table.proofs.badge.Badge.TheSendSync as Badge
use Rattle.swift_word.proofs.word.Word.TheSendSync as Word
use Rattle.swift_ledger.proofs.ledger.Ledger.TheSendSync as Ledger
use Rattle.swift_tasks.specs.contracts.held.WaitingTask as waiting
use Rattle.swift_tasks.specs.contracts.book.Book as book
use Rattle.swift_shared_book.proofs.lock.Lock.TheSendSync as Lock
use Rattle.swift_shared_book.specs.contracts.seat.BookSeat as book_seat
use Rattle.swift_shared_book.specs.contracts.shelf.Shelf as shelf
use Rattle.swift_shared_book.specs.contracts.shared.BookLock as book_lock

-- what is made of types that were shown before
ruleset plain = (Crossing.crosses, sendable)

pub body_sync : IsSync body.the_row
body_sync = search (plain, script_send, script_sync, TurnState.the_field_sync, Undo.the_field_sync, Bindings.the_sync, Phase.the_field_sync, Stack.the_sync, Source.the_sync, Waker.the_sync) depth 60 fits 20000

chosen_send : IsSend (chosen.the_field).row
chosen_send = search (plain, body_send) depth 60 fits 20000

fields_send : IsSend fields.the_row
fields_send = search (plain, SavedRows.the_send) depth 60 fits 20000

pub played_send : IsSend (played.the_field).row
played_send = search (plain, fields_send) depth 60 fits 20000

home_send : IsSend home.the_row
home_send = search (plain, script_send, script_sync, InvariantRows.the_send) depth 60 fits 20000

state_send : IsSend state.the_row
state_send = search (plain, script_send, script_sync, body_send, chosen_send, played_send, home_send, ReadyTasks.the_send, Journal.the_send, Checkpoint.the_send) depth 60 fits 20000

aside_send : IsSend (aside.the_field).row
aside_send = search (plain, chosen_send, SavedRows.the_send) depth 60 fits 20000

pub book_seat_send : IsSend book_seat.the_row
book_seat_send = search (plain, Badge.the_send) depth 60 fits 20000

held_send : IsSend held.the_row
held_send = search (plain, state_send, taker_send, book_seat_send, aside_send) depth 60 fits 20000

resting_send : IsSend resting.the_row
resting_send = search (plain, held_send) depth 60 fits 20000

spare_sync : IsSync (spare.the_field).row
spare_sync = search (plain, body_sync) depth 60 fits 20000

pub exec_sync : IsSync exec.the_row
exec_sync = search (plain, resting_send, inbox_sync, spare_sync, Word.the_sync) depth 60 fits 20000

pub desk_send : IsSend desk.the_row
desk_send = search (plain, resting_send, pass_send, Seat.the_send) depth 60 fits 20000

waiting_send : IsSend (waiting.the_field).row
waiting_send = search (plain, body_send) depth 60 fits 20000

book_send : IsSend book.the_row
book_send = search (plain, script_send, script_sync, body_send, waiting_send, Ledger.the_send) depth 60 fits 20000

shelf_send : IsSend (shelf.the_field).row
shelf_send = search (plain, book_send) depth 60 fits 20000

-- the book as threads share it
pub book_lock_sync : IsSync book_lock.the_row
book_lock_sync = search (plain, shelf_send, Lock.the_sync) depth 60 fits 20000

pub book_lock_send : IsSend book_lock.the_row
book_lock_send = search (plain, shelf_send, Lock.the_send) depth 60 fits 20000
