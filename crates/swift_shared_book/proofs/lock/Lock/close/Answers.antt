use Rattle.swift_shared_book.proofs.Prelude.{subst, sym, IfSome, LockSeatView, MayLearn}
use Rattle.swift_shared_book.proofs.LockCalls.{closes}
use Rattle.swift_shared_book.proofs.lock.Lock.close.Goals as goal

pub returns-then-word-eq-FREE : goal.returns-then-word-eq-FREE
returns-then-word-eq-FREE g c =
    subst (λ (s : LockSeatView _ _). IfSome c.take-slot.result (λ x. g.L.Lesson.fact s.known (g.T.Locked.image x))) c.seat.view_is
    (closes g.T.Locked.image g.P.LockRule.holds _ _ c.seat.inside.token.id c.word-word.result _ c.seat.inside.token.me.0 g.L.Lesson.fact c.close_with-closed.ensures.values.2 c.word-word.ensures c.take-slot.ensures.value c.if-word-eq-FREE.true
    (subst (λ (s : LockSeatView _ _). MayLearn g.P.LockRule.holds s.known (g.L.Lesson.fact s.known)) (sym c.seat.view_is) c.requires.rule))
