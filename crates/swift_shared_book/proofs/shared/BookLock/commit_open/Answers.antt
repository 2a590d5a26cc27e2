use Rattle.swift_shared_book.proofs.Prelude.{◌≡◌, ℕ, false, Some, List, length, drop, map, refl, sym, ap, ◌∙◌, subst, arith, rules, vec_len, effect_views, exit_view, BodyView, JobView, gathered, BookView, job_facts, facts_of, BookSeatView, newest, tickets_view, MayGiveBack, CommitsNamed, ahead_in, IsInRun, IsSomeAnd, IfSome}
use Rattle.swift_shared_book.specs.Commits.{CommitsTurn}
use Rattle.swift_shared_book.proofs.Committing.{begins_placed, commits_placed, committed_placed}
use Rattle.swift_shared_book.proofs.RuleKept.{jobs_made, no_fewer, tickets_after}
use Rattle.swift_shared_book.proofs.Shapes.{has_tickets}
use Rattle.swift_shared_book.proofs.shared.BookLock.commit_open.Goals as goal

pub keep_ahead-begun-requires-clause-gives : goal.keep_ahead-begun-requires-clause-gives
keep_ahead-begun-requires-clause-gives c =
    let s = c.args.taken.seat in
    let b0 = c.args.taken.book.value in
    let b = c.deref_mut.result.now in
    let same : b0 ≡ b = search rules in
    let place = c.args.place.now in
    let record_one = newest c.args.written.now.value in
    let effects = effect_views c.args.effects.now in
    let exit = exit_view c.args.exit.now in
    let taken : s.taken ≡ Some (facts_of b) = c.requires.untouched.2 ∙ ap (λ (x : BookView). Some (facts_of x)) same in
    let of_script : b.script ≡ c.args.self.now.script = ap (λ (x : BookView). x.script) (sym same) ∙ c.requires.untouched.1 in
    begins_placed place c.in-Some.job s.knows c.args.self.now.script record_one effects exit c.args.env c.in-Ok.given s.taken b c.in-Some.is c.requires.played taken of_script c.in-Ok.ensures.refused c.in-Ok.ensures.env place c.begin_known.new.self refl c.in-Ok.ensures.ok

pub jobs_from-made-requires : goal.jobs_from-made-requires
jobs_from-made-requires c =
    let s = c.args.taken.seat in
    let b0 = c.args.taken.book.value in
    let b = c.deref_mut.result.now in
    let same : b0 ≡ b = search rules in
    let place = c.args.place.now in
    let record_one = newest c.args.written.now.value in
    let effects = effect_views c.args.effects.now in
    let exit = exit_view c.args.exit.now in
    let taken : s.taken ≡ Some (facts_of b) = c.requires.untouched.2 ∙ ap (λ (x : BookView). Some (facts_of x)) same in
    let of_script : b.script ≡ c.args.self.now.script = ap (λ (x : BookView). x.script) (sym same) ∙ c.requires.untouched.1 in
    let b1 = c.deref_mut-2.result.now in
    let mid : b1 ≡ c.begin_known.new.self = search rules in
    let given_is : c.in-Ok.given ≡ c.args.env = search rules in
    let b2 = c.apply_in.new.self in
    let before = c.args.jobs.now.items in
    let after = c.apply_in.new.jobs.items in
    let m = jobs_made place b1 b2 effects exit before after c.in-Ok-apply_in.ensures.ok in
    let few = no_fewer before after m.0 m.1 in
    let old : c.len-before.result ≡ length before = search rules in
    let new : length after ≡ vec_len c.apply_in.new.jobs = search rules in
    omega (arith, few, old, new)

pub keep_commit-kept-requires-clause-gives : goal.keep_commit-kept-requires-clause-gives
keep_commit-kept-requires-clause-gives c =
    let s = c.args.taken.seat in
    let b0 = c.args.taken.book.value in
    let b = c.deref_mut.result.now in
    let same : b0 ≡ b = search rules in
    let place = c.args.place.now in
    let record_one = newest c.args.written.now.value in
    let effects = effect_views c.args.effects.now in
    let exit = exit_view c.args.exit.now in
    let taken : s.taken ≡ Some (facts_of b) = c.requires.untouched.2 ∙ ap (λ (x : BookView). Some (facts_of x)) same in
    let of_script : b.script ≡ c.args.self.now.script = ap (λ (x : BookView). x.script) (sym same) ∙ c.requires.untouched.1 in
    let b1 = c.deref_mut-2.result.now in
    let mid : b1 ≡ c.begin_known.new.self = search rules in
    let given_is : c.in-Ok.given ≡ c.args.env = search rules in
    let b2 = c.apply_in.new.self in
    let before = c.args.jobs.now.items in
    let after = c.apply_in.new.jobs.items in
    let count : c.len-before.result ≡ length before = search rules in
    let made : drop (length before) after ≡ c.jobs_from-made.result.now = sym (c.jobs_from-made.ensures ∙ ap (λ (n : ℕ). drop n after) count) in
    subst (λ (l : List (JobView BodyView)). MayGiveBack s.knows s.taken (facts_of b2) (CommitsNamed (ahead_in record_one c.of-was.result.value) record_one (map job_facts l) s.knows)) made
    (commits_placed place c.in-Some.job s.knows c.args.self.now.script record_one effects exit c.args.env c.in-Ok.given s.taken b c.in-Some.is c.requires.played taken of_script c.in-Ok.ensures.refused c.in-Ok.ensures.env given_is b1 b2 before after (mid ∙ c.in-Ok.ensures.ok) c.in-Ok-apply_in.ensures.refused c.in-Ok-apply_in.ensures.ok c.in-Ok-apply_in.ensures.script c.of-was.result.value c.of-was.ensures)

pub returns-in-Ok-apply_in-clause-done : goal.returns-in-Ok-apply_in-clause-done
returns-in-Ok-apply_in-clause-done c =
    let s = c.args.taken.seat in
    let b0 = c.args.taken.book.value in
    let b = c.deref_mut.result.now in
    let same : b0 ≡ b = search rules in
    let place = c.args.place.now in
    let record_one = newest c.args.written.now.value in
    let effects = effect_views c.args.effects.now in
    let exit = exit_view c.args.exit.now in
    let taken : s.taken ≡ Some (facts_of b) = c.requires.untouched.2 ∙ ap (λ (x : BookView). Some (facts_of x)) same in
    let of_script : b.script ≡ c.args.self.now.script = ap (λ (x : BookView). x.script) (sym same) ∙ c.requires.untouched.1 in
    let b1 = c.deref_mut-2.result.now in
    let mid : b1 ≡ c.begin_known.new.self = search rules in
    let given_is : c.in-Ok.given ≡ c.args.env = search rules in
    let b2 = c.apply_in.new.self in
    let before = c.args.jobs.now.items in
    let after = c.apply_in.new.jobs.items in
    let run = subst (λ (x : BookView). IsInRun s.knows (facts_of x)) same c.requires.run in
    let done = committed_placed place c.in-Some.job s.knows c.args.self.now.script record_one effects exit c.args.env c.in-Ok.given s.taken b c.in-Some.is c.requires.played taken of_script c.in-Ok.ensures.refused c.in-Ok.ensures.env given_is b1 b2 before after (mid ∙ c.in-Ok.ensures.ok) c.in-Ok-apply_in.ensures.refused c.in-Ok-apply_in.ensures.ok c.in-Ok-apply_in.ensures.script c.of-was.result.value c.keep_commit-kept.result.seat.knows (map job_facts before) (map job_facts after) c.of-was.ensures run c.keep_commit-kept.ensures.both refl refl in
    subst (λ (x : BookView). IsSomeAnd place (λ j. IfSome record_one (λ r. CommitsTurn x j r (map job_facts before) (map job_facts after) s.knows c.keep_commit-kept.result.seat.knows))) (sym same) done

pub returns-in-Ok-apply_in-clause-tickets : goal.returns-in-Ok-apply_in-clause-tickets
returns-in-Ok-apply_in-clause-tickets c =
    let s = c.args.taken.seat in
    let b0 = c.args.taken.book.value in
    let b = c.deref_mut.result.now in
    let same : b0 ≡ b = search rules in
    let place = c.args.place.now in
    let record_one = newest c.args.written.now.value in
    let effects = effect_views c.args.effects.now in
    let exit = exit_view c.args.exit.now in
    let taken : s.taken ≡ Some (facts_of b) = c.requires.untouched.2 ∙ ap (λ (x : BookView). Some (facts_of x)) same in
    let of_script : b.script ≡ c.args.self.now.script = ap (λ (x : BookView). x.script) (sym same) ∙ c.requires.untouched.1 in
    let b1 = c.deref_mut-2.result.now in
    let mid : b1 ≡ c.begin_known.new.self = search rules in
    let given_is : c.in-Ok.given ≡ c.args.env = search rules in
    let b2 = c.apply_in.new.self in
    let before = c.args.jobs.now.items in
    let after = c.apply_in.new.jobs.items in
    let m = jobs_made place b1 b2 effects exit before after c.in-Ok-apply_in.ensures.ok in
    let count : c.len-before.result ≡ length before = search rules in
    let made : c.jobs_from-made.result.now ≡ drop (length before) after = c.jobs_from-made.ensures ∙ ap (λ (n : ℕ). drop n after) count in
    let script = s.knows.script in
    let old = c.requires.tickets.1.1 in (
      ap (λ (x : BookSeatView). x.lock) c.keep_commit-kept.ensures.tickets,
      has_tickets c.keep_commit-kept.new.tickets c.args.self.now (tickets_view script c.jobs_from-made.result.now) c.args.tickets.now.knows script old c.jobs_from-made.result.now before after false c.keep_commit-kept.ensures.tickets refl
          c.requires.tickets.1.2
          (ap (λ (l : List (JobView BodyView)). gathered (tickets_view script l) (tickets_view old before)) made ∙ tickets_after script old before after m.0 m.1) refl,
    )

pub keep_ahead-begun-requires-in-Err-clause-gives : goal.keep_ahead-begun-requires-in-Err-clause-gives
keep_ahead-begun-requires-in-Err-clause-gives c =
    let s = c.args.taken.seat in
    let b0 = c.args.taken.book.value in
    let b = c.deref_mut.result.now in
    let same : b0 ≡ b = search rules in
    let place = c.args.place.now in
    let record_one = newest c.args.written.now.value in
    let effects = effect_views c.args.effects.now in
    let exit = exit_view c.args.exit.now in
    let taken : s.taken ≡ Some (facts_of b) = c.requires.untouched.2 ∙ ap (λ (x : BookView). Some (facts_of x)) same in
    let of_script : b.script ≡ c.args.self.now.script = ap (λ (x : BookView). x.script) (sym same) ∙ c.requires.untouched.1 in
    let b1 = c.deref_mut-2.result.now in
    let mid : b1 ≡ c.begin_known.new.self = search rules in
    begins_placed place c.in-Some.job s.knows c.args.self.now.script record_one effects exit c.args.env c.in-Ok.given s.taken b c.in-Some.is c.requires.played taken of_script c.in-Ok.ensures.refused c.in-Ok.ensures.env c.apply_in.new.job c.apply_in.new.self c.in-Err.ensures.err.2 (c.in-Err.ensures.err.0 ∙ mid ∙ c.in-Ok.ensures.ok)
