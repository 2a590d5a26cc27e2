use Rattle.swift_shared_book.proofs.Prelude.{◌≡◌, Bool, List, sym, ap, ◌∙◌, subst, rules, effect_views, exit_view, IsSomeAnd, None, BodyView, JobView, BookKnown, IsRefusal, refusal_of_apply, OpenSeatView, TicketedJobsView, newest, HasTicketsOf, oldest_first}
use Rattle.swift_shared_book.proofs.RuleKept.{IsPlayedIn, ends_answered, ends_run, refused_run}
use Rattle.swift_shared_book.proofs.shared.BookLock.apply.Goals as goal

pub apply_taken-requires-clause-played : goal.apply_taken-requires-clause-played
apply_taken-requires-clause-played g c =
    subst (λ (x : BookKnown). IsSomeAnd c.args.place.now (IsPlayedIn c.args.self.now.script x (newest c.args.journal.now) (effect_views c.args.effects.now) (exit_view c.args.exit.now))) (sym (ap (λ (x : OpenSeatView). x.knows) c.lock-taken.ensures.seat)) c.requires.played

pub apply_taken-requires-clause-tickets : goal.apply_taken-requires-clause-tickets
apply_taken-requires-clause-tickets g c =
    (ap (λ (t : TicketedJobsView). t.book) c.jobs.view_is ∙ c.requires.jobs, subst (λ (l : List (JobView BodyView)). HasTicketsOf l c.jobs.inside.seat) (sym c.turn.ensures.jobs) c.jobs.invariant)

pub invariant_of-jobs : goal.invariant_of-jobs
invariant_of-jobs g c = subst (λ (b : Bool). HasTicketsOf (oldest_first b c.apply_taken.new.jobs.items) c.apply_taken.new.tickets) (sym c.turn.ensures.way) c.apply_taken.ensures.tickets.1

pub returns-clause-ok : goal.returns-clause-ok
returns-clause-ok g c =
    let v = c.args.seat.now.knows in
    let b = c.lock-taken.result.book.value in
    let effects = effect_views c.args.effects.now in
    let exit = exit_view c.args.exit.now in
    ends_answered c.apply_taken.result _ _ _ _
    (ends_run c.args.place.now c.args.self.now.script v b effects exit c.turn.new.jobs.items c.apply_taken.new.jobs.items c.args.jobs.now.jobs
    (oldest_first c.turn.new.is_reversed c.apply_taken.new.jobs.items) c.lock-taken.ensures.script c.lock-taken.ensures.run
    (c.turn.ensures.jobs ∙ ap (λ (t : TicketedJobsView). t.jobs) c.jobs.view_is)
    (sym (ap (λ (w : Bool). oldest_first w c.apply_taken.new.jobs.items) c.turn.ensures.way)))
    c.apply_taken.ensures.refused c.apply_taken.ensures.ok

pub returns-clause-refused : goal.returns-clause-refused
returns-clause-refused g c =
    refused_run c.apply_taken.result c.args.self.now.script c.args.seat.now.knows c.lock-taken.result.book.value _
    (λ b fault. IsSomeAnd c.args.place.now (λ j. IsRefusal (refusal_of_apply b.script b.log j (effect_views c.args.effects.now) (exit_view c.args.exit.now)) fault)) c.lock-taken.ensures.script c.lock-taken.ensures.run c.apply_taken.ensures.refused
