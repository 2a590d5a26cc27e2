use Rattle.swift_shared_book.proofs.Prelude.{rules, subst, sym, ap, ◌∙◌, LockSeatView, MayJoin}
use Rattle.swift_shared_book.proofs.LockSteps.{joins}
use Rattle.swift_shared_book.proofs.lock.seat.LockSeat.join.Goals as goal

pub join_seat-requires : goal.join_seat-requires
join_seat-requires g c =
    let mine = c.other.inside.token.me.0.known in
    let may = subst (λ (o : LockSeatView _ _). MayJoin g.P.LockRule.holds c.args.self.now.known o.known (g.M.Join.both c.args.self.now.known o.known) g.M.Join.spent) (sym c.other.view_is) c.requires.rule in
    let may' = subst (λ (s : LockSeatView _ _). MayJoin g.P.LockRule.holds s.known mine (g.M.Join.both s.known mine) g.M.Join.spent) (sym c.self.view_is) may in (
      search rules,
      search rules,
      search rules,
      search rules,
      joins _ _ _ _ _ _ _ _ (ap (λ (s : LockSeatView _ _). s.held) c.other.view_is ∙ c.requires.free) may',
    )
