use Rattle.swift_shared_book.proofs.Prelude.{◌≡◌, ap, ◌∙◌, BookKnown, gathered, BookSeatView, newest, seat_of, tickets_view}
use Rattle.swift_shared_book.proofs.Committing.{parted_committed}
use Rattle.swift_shared_book.proofs.shared.BookLock.keep_commit.Goals as goal

pub returns-clause-tickets : goal.returns-clause-tickets
returns-clause-tickets c =
    let b = c.args.given in
    let made = c.args.made.now in
    let parted : c.part_open-left.result.1.knows ≡ tickets_view b.seat.knows.script made =
    ap (λ (s : BookSeatView). s.knows) c.part_open-left.ensures.new
    ∙ parted_committed b.seat.taken (newest c.args.written.now.value) c.args.was.now.value made b.seat.knows c.keep_both-kept.result.seat.knows c.requires.taken c.requires.job c.keep_both-kept.ensures.both
    in
    c.append.ensures ∙ ap (λ (x : BookKnown). seat_of c.args.self.now (gathered x c.args.tickets.now.knows)) parted
