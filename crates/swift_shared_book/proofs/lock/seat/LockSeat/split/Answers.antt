use Rattle.swift_shared_book.proofs.Prelude.{rules, subst, sym, LockSeatView, MaySplit}
use Rattle.swift_shared_book.proofs.LockSteps.{splits}
use Rattle.swift_shared_book.proofs.lock.seat.LockSeat.split.Goals as goal

pub split_seat-token-requires : goal.split_seat-token-requires
split_seat-token-requires g c =
    let may = subst (λ (s : LockSeatView _ _). MaySplit g.P.LockRule.holds s.known (g.M.Split.left s.known) (g.M.Split.right s.known)) (sym c.self.view_is) c.requires.rule in
    (search rules, search rules, splits _ _ _ _ _ _ may)
