use Rattle.swift_shared_book.proofs.Prelude.{Some, job_facts}
use Rattle.swift_shared_book.proofs.shared.BookLock.begin.Given as goal

abbrev pub ghosts-give_begun : goal.ghosts-give_begun
ghosts-give_begun a = record { job = Some (job_facts a.job.now); env = Some a.env }
