use Rattle.swift_shared_book.proofs.Prelude.{◌≡◌, sym, subst, facts_of, MayGiveBack, OpenBook}
use Rattle.swift_shared_book.proofs.RuleKept.{stays, unlocks}
use Rattle.swift_shared_book.proofs.shared.BookLock.leave.Goals as goal

pub unlock-requires-clause-rule : goal.unlock-requires-clause-rule
unlock-requires-clause-rule c =
    let s = c.given.inside.0.1.0.seat in
    let b = c.args.given in
    unlocks s.held s.known _ (λ _ w. w ≡ s.known.view)
    (subst (λ (o : OpenBook). MayGiveBack o.seat.knows o.seat.taken (facts_of o.book.value) (λ _ w. w ≡ o.seat.knows)) (sym c.given.view_is) (stays b.seat.taken b.seat.knows (facts_of b.book.value) c.requires.same))
