use Rattle.swift_shared_book.proofs.Prelude.{sym, subst, IfSome, job_facts, has_last_root, facts_of, BeginsTicket, facts_in, MayGiveBack, OpenBook}
use Rattle.swift_shared_book.proofs.RuleKept.{names_begun, unlocks}
use Rattle.swift_shared_book.proofs.shared.BookLock.give_begun.Goals as goal

pub unlock-requires-clause-rule : goal.unlock-requires-clause-rule
unlock-requires-clause-rule g c =
    let s = c.given.inside.0.1.0.seat in
    let j = job_facts c.args.job.now in
    let env = c.args.env in
    let named = g.K.NamesBegun in
    let may =
    subst (λ (o : OpenBook). MayGiveBack o.seat.knows o.seat.taken (facts_of o.book.value) (λ taken. BeginsTicket taken.log (has_last_root taken.script taken.log) j env o.seat.knows)) (sym c.given.view_is) c.requires.gives
    in
    unlocks s.held s.known _ (λ taken w. IfSome named.job (λ x. IfSome named.env (λ y. BeginsTicket taken.log (has_last_root taken.script taken.log) x y s.known.view w)))
    (names_begun named.job named.env (facts_in s.held) s.known.view _ j env c.requires.name.0 c.requires.name.1 may)
