use Rattle.swift_shared_book.proofs.Prelude.{◌≡◌, Option, Some, List, [], ◌∷◌, ◌++◌, IfSome, sym, ap, ◌∙◌, subst, BodyView, JobView, BookFacts, BookView, facts_of, BookSeatView, OpenSeatView, tickets_view, KnowsRoot}
use Rattle.swift_shared_book.proofs.RuleKept.{root_parted, roots_at}
use Rattle.swift_shared_book.proofs.Shapes.{append_is, has_tickets}
use Rattle.swift_shared_book.proofs.shared.BookLock.add_root.Goals as goal

pub give_root-requires-clause-gives : goal.give_root-requires-clause-gives
give_root-requires-clause-gives g c =
    let s = c.lock-taken.result.seat in
    let b = c.deref_mut.result.now in
    let is = c.lock-taken.ensures.seat in
    let m = c.requires.next.0 in
    roots_at s.taken s.knows m c.args.root.0 b c.add_root.new.self c.in-Ok.job (ap (λ (x : OpenSeatView). x.taken) is ∙ ap (λ (x : BookView). Some (facts_of x)) (sym c.deref_mut.ensures.value))
    (ap (λ (x : OpenSeatView). x.knows.maker) is ∙ c.requires.next.1) c.requires.next.2 c.in-Ok.ensures.refused c.in-Ok.ensures.ok c.in-Ok.ensures.job

pub invariant_of-jobs-in-Ok : goal.invariant_of-jobs-in-Ok
invariant_of-jobs-in-Ok g c =
    let s = c.lock-taken.result.seat in
    let b = c.deref_mut.result.now in
    let is = c.lock-taken.ensures.seat in
    let m = c.requires.next.0 in
    let w = c.give_root.new.seat.knows in
    let job = c.in-Ok.job in
    let before = c.turn.new.jobs.items in
    let after = c.push_reserved.new.self.items in
    let taken : s.taken ≡ Some (facts_of b) = ap (λ (x : OpenSeatView). x.taken) is ∙ ap (λ (x : BookView). Some (facts_of x)) (sym c.deref_mut.ensures.value) in
    let known : KnowsRoot s.knows (facts_of b) w = subst (λ (h : Option BookFacts). IfSome h (λ x. KnowsRoot s.knows x w)) taken c.give_root.ensures.root in
    let parted : c.part-ticket.result.knows ≡ tickets_view s.knows.script (job ∷ []) =
    ap (λ (x : BookSeatView). x.knows) c.part-ticket.ensures.new ∙ root_parted s.knows w m c.args.root.0 (facts_of b) job (ap (λ (x : OpenSeatView). x.knows.maker) is ∙ c.requires.next.1) c.requires.next.2 known c.in-Ok.ensures.job
    in
    let pushed : before ++ job ∷ [] ≡ after = sym (c.push_reserved.ensures.items ∙ ap (λ (l : List (JobView BodyView)). l ++ job ∷ []) c.reserve.ensures.items) in
    has_tickets c.append.new.tickets c.args.self.now c.part-ticket.result.knows c.jobs.inside.seat.knows s.knows.script c.jobs.invariant.1 (job ∷ []) before after c.turn.new.is_reversed c.append.ensures parted
    (c.jobs.invariant.2 ∙ ap (tickets_view c.jobs.invariant.1) (sym c.turn.ensures.jobs)) (append_is s.knows.script c.jobs.invariant.1 before (job ∷ []) ∙ ap (tickets_view s.knows.script) pushed) c.turn.ensures.way
