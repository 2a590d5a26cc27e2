use Rattle.swift_shared_book.proofs.Prelude.{map, job_facts, newest, knowing_record}
use Rattle.swift_shared_book.proofs.shared.BookLock.give_turn.Given as goal

abbrev pub ghosts-give_applied : goal.ghosts-give_applied
ghosts-give_applied a = record { view = knowing_record (newest a.journal.now) (map job_facts a.made.now) a.given.seat.knows }
