use Rattle.swift_shared_book.proofs.Prelude.{Some, newest, ahead_in}
use Rattle.swift_shared_book.proofs.shared.BookLock.commit_open.Given as goal

abbrev pub ghosts-keep_ahead : goal.ghosts-keep_ahead
ghosts-keep_ahead a = record { job = ahead_in (newest a.written.now.value) a.place.now; env = Some a.env }
