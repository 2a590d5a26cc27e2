use Rattle.swift_shared_book.proofs.Prelude.{◌≡◌, ℕ, false, Some, List, length, drop, map, refl, sym, ap, ◌∙◌, subst, arith, rules, vec_len, effect_views, exit_view, BodyView, JobView, gathered, BookView, job_facts, facts_of, BookSeatView, newest, tickets_view, MayGiveBack, knowing_record}
use Rattle.swift_shared_book.proofs.RuleKept.{applies, ends_taken, jobs_made, no_fewer, tickets_after}
use Rattle.swift_shared_book.proofs.Shapes.{has_tickets}
use Rattle.swift_shared_book.proofs.shared.BookLock.apply_taken.Goals as goal

pub jobs_from-made-requires : goal.jobs_from-made-requires
jobs_from-made-requires c =
    let before = c.args.jobs.now.items in
    let after = c.apply_in.new.jobs.items in
    let m = jobs_made c.args.place.now c.deref_mut.result.now c.apply_in.new.self (effect_views c.args.effects.now) (exit_view c.args.exit.now) before after c.in-Ok.ensures.ok in
    let few = no_fewer before after m.0 m.1 in
    let old : c.len-before.result ≡ length before = search rules in
    let new : length after ≡ vec_len c.apply_in.new.jobs = search rules in
    omega (arith, few, old, new)

pub give_turn-requires-clause-gives : goal.give_turn-requires-clause-gives
give_turn-requires-clause-gives c =
    let s = c.args.taken.seat in
    let b = c.deref_mut.result.now in
    let b' = c.apply_in.new.self in
    let newest_one = newest c.args.journal.now in
    let before = c.args.jobs.now.items in
    let after = c.apply_in.new.jobs.items in
    let same : c.args.taken.book.value ≡ b = search rules in
    let count : c.len-before.result ≡ length before = search rules in
    let made : drop (length before) after ≡ c.jobs_from-made.result.now = sym (c.jobs_from-made.ensures ∙ ap (λ (n : ℕ). drop n after) count) in
    subst (λ (l : List (JobView BodyView)). MayGiveBack s.knows s.taken (facts_of b') (λ _ w. w ≡ knowing_record newest_one (map job_facts l) s.knows)) made
    (applies c.args.place.now s.taken s.knows c.args.self.now.script b b' newest_one (effect_views c.args.effects.now) (exit_view c.args.exit.now) before after (c.requires.untouched.2 ∙ ap (λ (x : BookView). Some (facts_of x)) same)
    (ap (λ (x : BookView). x.script) (sym same) ∙ c.requires.untouched.1)
    c.requires.played c.in-Ok.ensures.refused c.in-Ok.ensures.ok
    c.in-Ok.ensures.script)

pub returns-in-Ok-clause-ok : goal.returns-in-Ok-clause-ok
returns-in-Ok-clause-ok c =
    let same : c.args.taken.book.value ≡ c.deref_mut.result.now = search rules in
    ends_taken c.args.place.now c.args.taken.book.value c.deref_mut.result.now c.apply_in.new.self (effect_views c.args.effects.now) (exit_view c.args.exit.now) c.args.jobs.now.items c.apply_in.new.jobs.items same c.in-Ok.ensures.script c.in-Ok.ensures.ok

pub returns-in-Ok-clause-tickets : goal.returns-in-Ok-clause-tickets
returns-in-Ok-clause-tickets c =
    let s = c.args.taken.seat in
    let before = c.args.jobs.now.items in
    let after = c.apply_in.new.jobs.items in
    let m = jobs_made c.args.place.now c.deref_mut.result.now c.apply_in.new.self (effect_views c.args.effects.now) (exit_view c.args.exit.now) before after c.in-Ok.ensures.ok in
    let count : c.len-before.result ≡ length before = search rules in
    let made : c.jobs_from-made.result.now ≡ drop (length before) after = c.jobs_from-made.ensures ∙ ap (λ (n : ℕ). drop n after) count in
    let script = s.knows.script in
    let old = c.requires.tickets.1.1 in (
      ap (λ (x : BookSeatView). x.lock) c.give_turn.ensures.tickets,
      has_tickets c.give_turn.new.tickets c.args.self.now (tickets_view script c.jobs_from-made.result.now) c.args.tickets.now.knows script old c.jobs_from-made.result.now before after false c.give_turn.ensures.tickets refl
          c.requires.tickets.1.2
          (ap (λ (l : List (JobView BodyView)). gathered (tickets_view script l) (tickets_view old before)) made ∙ tickets_after script old before after m.0 m.1) refl,
    )
