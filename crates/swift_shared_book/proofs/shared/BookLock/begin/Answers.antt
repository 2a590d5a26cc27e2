use Rattle.swift_shared_book.proofs.Prelude.{◌≡◌, Some, rules, sym, ap, ◌∙◌, BookView, facts_of}
use Rattle.swift_shared_book.proofs.RuleKept.{begins}
use Rattle.swift_shared_book.proofs.shared.BookLock.begin.Goals as goal

pub give_begun-requires-clause-gives : goal.give_begun-requires-clause-gives
give_begun-requires-clause-gives c =
    let s = c.args.taken.seat in
    let b = c.deref_mut.result.now in
    let same : c.args.taken.book.value ≡ b = search rules in
    begins s.taken s.knows c.args.self.now.script b c.begin_known.new.self c.args.job.now c.in-Ok.env (c.requires.untouched.2 ∙ ap (λ (x : BookView). Some (facts_of x)) same) (ap (λ (x : BookView). x.script) (sym same) ∙ c.requires.untouched.1)
    c.requires.ticket c.requires.account c.in-Ok.ensures.refused c.in-Ok.ensures.env
    c.in-Ok.ensures.ok
