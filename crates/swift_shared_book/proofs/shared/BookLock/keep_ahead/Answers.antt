use Rattle.swift_shared_book.proofs.Prelude.{sym, subst, Option, Some, IfSome, Env, JobFacts, facts_of, newest, MayGiveBack, OpenBook, BeginsNamed, ahead_in}
use Rattle.swift_shared_book.proofs.RuleKept.{told, unlocks}
use Rattle.swift_shared_book.proofs.shared.BookLock.keep_ahead.Goals as goal

pub publish-requires-clause-rule : goal.publish-requires-clause-rule
publish-requires-clause-rule g c =
    let s = c.given.inside.0.1.0.seat in
    let b = c.args.given in
    let named = g.K.NamesBegun in
    let may =
    subst (λ (o : Option JobFacts). MayGiveBack b.seat.knows b.seat.taken (facts_of b.book.value) (BeginsNamed o named.env b.seat.knows)) (sym c.requires.name.0)
    (subst (λ (o : Option Env). MayGiveBack b.seat.knows b.seat.taken (facts_of b.book.value) (BeginsNamed (ahead_in (newest c.args.written.now.value) c.args.place.now) o b.seat.knows)) (sym c.requires.name.1) c.requires.gives)
    in
    unlocks s.held s.known _ (BeginsNamed named.job named.env s.known.view)
    (subst (λ (o : OpenBook). MayGiveBack o.seat.knows o.seat.taken (facts_of o.book.value) (BeginsNamed named.job named.env o.seat.knows)) (sym c.given.view_is) may)

pub returns-clause-begun : goal.returns-clause-begun
returns-clause-begun g c =
    let s = c.given.inside.0.1.0.seat in
    let w = c.publish.new.seat.known.view in
    let named = g.K.NamesBegun in
    let begun : IfSome c.args.given.seat.taken (λ taken. BeginsNamed named.job named.env c.args.given.seat.knows taken w) =
    subst (λ (o : OpenBook). IfSome o.seat.taken (λ taken. BeginsNamed named.job named.env o.seat.knows taken w)) c.given.view_is
    (told s.held w (BeginsNamed named.job named.env s.known.view) c.publish.ensures.then)
    in
    subst (λ (o : Option JobFacts). IfSome c.args.given.seat.taken (λ taken. BeginsNamed o (Some c.args.env) c.args.given.seat.knows taken w)) c.requires.name.0
    (subst (λ (o : Option Env). IfSome c.args.given.seat.taken (λ taken. BeginsNamed named.job o c.args.given.seat.knows taken w)) c.requires.name.1 begun)
