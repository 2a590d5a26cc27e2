use Rattle.swift_shared_book.proofs.Prelude.{sym, subst, List, Option, JobFacts, RecordView, facts_of, newest, MayGiveBack, OpenBook, CommitsNamed, ahead_in}
use Rattle.swift_shared_book.proofs.RuleKept.{unlocks}
use Rattle.swift_shared_book.proofs.shared.BookLock.keep_both.Goals as goal

pub publish-requires-clause-rule : goal.publish-requires-clause-rule
publish-requires-clause-rule g c =
    let s = c.given.inside.0.1.0.seat in
    let b = c.args.given in
    let named = g.K.NamesCommit in
    let may =
    subst (λ (o : Option JobFacts). MayGiveBack b.seat.knows b.seat.taken (facts_of b.book.value) (CommitsNamed o named.written named.made b.seat.knows)) (sym c.requires.name.0)
    (subst (λ (o : Option RecordView). MayGiveBack b.seat.knows b.seat.taken (facts_of b.book.value) (CommitsNamed (ahead_in (newest c.args.written.now.value) c.args.was.now.value) o named.made b.seat.knows)) (sym c.requires.name.1)
    (subst (λ (l : List JobFacts). MayGiveBack b.seat.knows b.seat.taken (facts_of b.book.value) (CommitsNamed (ahead_in (newest c.args.written.now.value) c.args.was.now.value) (newest c.args.written.now.value) l b.seat.knows)) (sym c.requires.name.2) c.requires.gives))
    in
    unlocks s.held s.known _ (CommitsNamed named.job named.written named.made s.known.view)
    (subst (λ (o : OpenBook). MayGiveBack o.seat.knows o.seat.taken (facts_of o.book.value) (CommitsNamed named.job named.written named.made o.seat.knows)) (sym c.given.view_is) may)
