use Rattle.swift_shared_book.proofs.Prelude.{rules, subst, sym, IfSome, IsSome, step, LockSeatView, MayUnlock}
use mathlib.Core.Option.{none}
use Rattle.swift_shared_book.proofs.LockCalls.{publishes_held}
use Rattle.swift_shared_book.proofs.lock.Lock.publish_named.Goals as goal

pub load-found-requires : goal.load-found-requires
load-found-requires g c =
    let image = g.T.Locked.image c.args.value.now in (
      search rules,
      search rules,
      publishes_held _ _ _ _ c.seat.inside.token.me g.O.UnlockOutcome.then (step c.self.inside.table.shared.table_id.slots 0 0 0 none) image _ c.requires.name
          (subst (λ (s : LockSeatView _ _). IsSome s.held) (sym c.seat.view_is) c.requires.holds)
          (subst (λ (s : LockSeatView _ _). IfSome s.held (λ taken. MayUnlock g.P.LockRule.holds s.known taken image (g.O.UnlockOutcome.then s.known taken image))) (sym c.seat.view_is) c.requires.rule),
    )
