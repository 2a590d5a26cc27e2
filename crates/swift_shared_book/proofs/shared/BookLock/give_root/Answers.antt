use Rattle.swift_shared_book.proofs.Prelude.{sym, subst, facts_of, KnowsRoot, MayGiveBack, OpenBook}
use Rattle.swift_shared_book.proofs.RuleKept.{unlocks}
use Rattle.swift_shared_book.proofs.shared.BookLock.give_root.Goals as goal

pub unlock-requires-clause-rule : goal.unlock-requires-clause-rule
unlock-requires-clause-rule c =
    let s = c.given.inside.0.1.0.seat in
    unlocks s.held s.known _ (KnowsRoot s.known.view)
    (subst (λ (o : OpenBook). MayGiveBack o.seat.knows o.seat.taken (facts_of o.book.value) (KnowsRoot o.seat.knows)) (sym c.given.view_is) c.requires.gives)
