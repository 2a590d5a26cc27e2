use Rattle.swift_shared_book.proofs.Prelude.{ap, BookSeatView}
use Rattle.swift_shared_book.proofs.shared.BookLock.no_jobs.Goals as goal

pub none-requires : goal.none-requires
none-requires c = (ap (λ (s : BookSeatView). s.here) c.part.ensures.new, c.args.seat.now.knows.script, ap (λ (s : BookSeatView). s.knows) c.part.ensures.new)
