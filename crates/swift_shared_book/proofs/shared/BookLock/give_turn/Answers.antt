use Rattle.swift_shared_book.proofs.Prelude.{◌≡◌, length, ap, ◌∙◌, BookKnown, gathered, some_parted, BookSeatView, newest, seat_of, tickets_view}
use Rattle.swift_shared_book.proofs.Shapes.{parted_is}
use Rattle.swift_shared_book.proofs.shared.BookLock.give_turn.Goals as goal

pub returns-clause-tickets : goal.returns-clause-tickets
returns-clause-tickets c =
    let v = c.args.given.seat.knows in
    let made = c.args.made.now in
    let parted : c.part-parted.result.knows ≡ tickets_view v.script made =
    ap (λ (s : BookSeatView). s.knows) c.part-parted.ensures.new
    ∙ ap (λ (s : BookSeatView). some_parted (length made) s.knows) c.give_applied.ensures
    ∙ parted_is (newest c.args.journal.now) made v c.requires.newest
    in
    c.append.ensures ∙ ap (λ (x : BookKnown). seat_of c.args.self.now (gathered x c.args.tickets.now.knows)) parted
