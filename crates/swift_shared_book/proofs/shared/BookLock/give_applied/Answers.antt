use Rattle.swift_shared_book.proofs.Prelude.{◌≡◌, sym, subst, BookKnown, facts_of, MayGiveBack, OpenBook}
use Rattle.swift_shared_book.proofs.RuleKept.{unlocks}
use Rattle.swift_shared_book.proofs.shared.BookLock.give_applied.Goals as goal

pub unlock-requires-clause-rule : goal.unlock-requires-clause-rule
unlock-requires-clause-rule g c =
    let s = c.given.inside.0.1.0.seat in
    let b = c.args.given in
    let known = g.K.Told.view in
    let may = subst (λ (x : BookKnown). MayGiveBack b.seat.knows b.seat.taken (facts_of b.book.value) (λ _ w. w ≡ x)) (sym c.requires.name) c.requires.gives in
    unlocks s.held s.known _ (λ _ w. w ≡ known) (subst (λ (o : OpenBook). MayGiveBack o.seat.knows o.seat.taken (facts_of o.book.value) (λ _ w. w ≡ known)) (sym c.given.view_is) may)
