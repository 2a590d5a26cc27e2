use Rattle.swift_shared_book.proofs.Prelude.{map, job_facts, newest, ahead_in}
use Rattle.swift_shared_book.proofs.shared.BookLock.keep_commit.Given as goal

abbrev pub ghosts-keep_both : goal.ghosts-keep_both
ghosts-keep_both a = record { job = ahead_in (newest a.written.now.value) a.was.now.value; written = newest a.written.now.value; made = map job_facts a.made.now }

abbrev pub ghosts-part_open : goal.ghosts-part_open
ghosts-part_open a = record { count = a.count }
