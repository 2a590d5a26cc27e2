use Rattle.swift_shared_book.proofs.shared.BookLock.part.Given as goal

abbrev pub ghosts-part_some : goal.ghosts-part_some
ghosts-part_some a = record { count = a.count }
