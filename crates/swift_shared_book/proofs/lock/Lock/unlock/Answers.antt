use Rattle.swift_shared_book.proofs.Prelude.{rules, subst, sym, IfSome, IsSome, step, LockSeatView, MayUnlock}
use mathlib.Core.Option.{none}
use Rattle.swift_shared_book.proofs.LockCalls.{unlocks_filled}
use Rattle.swift_shared_book.proofs.lock.Lock.unlock.Goals as goal

pub swap-found-requires : goal.swap-found-requires
swap-found-requires g c =
    let image = g.T.Locked.image c.args.value in (
      search rules,
      search rules,
      unlocks_filled _ _ _ _ c.seat.inside.token.me _ g.O.UnlockOutcome.then (step c.self.inside.table.shared.table_id.slots 0 0 0 none) c.args.value (subst (λ (s : LockSeatView _ _). IsSome s.held) (sym c.seat.view_is) c.requires.holds)
          (subst (λ (s : LockSeatView _ _). IfSome s.held (λ taken. MayUnlock g.P.LockRule.holds s.known taken image (g.O.UnlockOutcome.then s.known taken image))) (sym c.seat.view_is) c.requires.rule) c.fill.ensures.full,
    )
