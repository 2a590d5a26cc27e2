use Rattle.swift_shared_book.proofs.Prelude.{rules, subst, sym, ap, ◌∙◌, ◌∷◌, step, LockSeatView, MayLearn}
use mathlib.Core.Option.{none}
use Rattle.swift_shared_book.proofs.LockSteps.{locks, exchange_holds}
use Rattle.swift_shared_book.proofs.LockCalls.{free_hand, locked_with}
use Rattle.swift_shared_book.proofs.lock.Lock.try_lock.Goals as goal

pub compare_exchange-found-requires : goal.compare_exchange-found-requires
compare_exchange-found-requires g c = (
  search rules,
  search rules,
  locks _ _ _ _ c.seat.inside.token.me g.L.Lesson.fact _ (step c.self.inside.table.shared.table_id.slots 0 0 1 none) exchange_holds
      (subst (λ (s : LockSeatView _ _). MayLearn g.P.LockRule.holds s.known (g.L.Lesson.fact s.known)) (sym c.seat.view_is) c.requires.rule),
)

pub empty-requires-clause-full : goal.empty-requires-clause-full
empty-requires-clause-full g c =
    let me = c.seat.inside.token.me in
    let took = locked_with g.T.Locked.image g.P.LockRule.holds g.L.Lesson.fact me c.compare_exchange-found.new.seat.me c.compare_exchange-found.result c.compare_exchange-found.ensures.2 c.if-found-ne-FREE.false in
    let nothing = free_hand g.T.Locked.image g.P.LockRule.holds me.0.held me.1 c.seat.invariant (ap (λ (s : LockSeatView _ _). s.held) c.seat.view_is ∙ c.requires.free) in
    (took.0, ap (λ m. m.1) took.1 ∙ ap (λ l. (0, Rattle.std.proofs.Common.Some took.0) ∷ l) nothing)
