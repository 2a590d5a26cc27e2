use Rattle.swift_shared_book.proofs.Prelude.{rules, subst, sym, step, LockSeatView, MayLearn}
use mathlib.Core.Option.{none}
use Rattle.swift_shared_book.proofs.LockSteps.{recalls}
use Rattle.swift_shared_book.proofs.lock.Lock.recall.Goals as goal

pub load-found-requires : goal.load-found-requires
load-found-requires g c = (
  search rules,
  search rules,
  recalls _ _ _ _ c.seat.inside.token.me g.L.Lesson.fact (step c.self.inside.table.shared.table_id.slots 0 0 0 none)
      (subst (λ (s : LockSeatView _ _). MayLearn g.P.LockRule.holds s.known (g.L.Lesson.fact s.known)) (sym c.seat.view_is) c.requires.rule),
)
