use Rattle.swift_ledger.proofs.Prelude.{[], ◌∷◌, ◌++◌, sym, ◌∙◌, arith, get, waiter_in, waiters_of, count_at, same_place, pushed}
use Rattle.swift_ledger.proofs.ListLemmas.{kept_same}
use Rattle.swift_ledger.proofs.RelativeLemmas.{length-filter_map, waiter_known, waiter_pushed, waiter_same}
use Rattle.swift_ledger.proofs.relatives.note_waiter.Goals as goal

pub push-requires-clause-short : goal.push-requires-clause-short
push-requires-clause-short c = omega (arith, c.requires.waiters.lengths c.in-Some.awaited.0, length-filter_map (waiter_in c.in-Some.awaited.0) c.args.log.now.events, c.requires.short)

pub returns-in-Some-clause-waiters : goal.returns-in-Some-clause-waiters
returns-in-Some-clause-waiters c =
    kept_same (λ t. count_at c.push.new.self.counts t) (λ p. get same_place c.push.new.self.tasks p) (pushed (λ t. waiters_of t c.args.log.now.events) c.in-Some.awaited c.in-Some.waiter) (λ t. waiters_of t (c.args.log.now.events ++ c.args.event ∷ []))
    (λ t. waiter_pushed t c.args.log.now.events c.args.event (c.in-Some.awaited, c.in-Some.waiter) (sym c.waiter_pair.ensures ∙ c.in-Some.is))
    (c.push.ensures.lists (λ t. waiters_of t c.args.log.now.events) c.requires.waiters)

pub push-requires-clause-known : goal.push-requires-clause-known
push-requires-clause-known c = waiter_known c.args.roots c.args.log.now.events c.args.event (c.in-Some.awaited, c.in-Some.waiter) c.requires.log c.requires.fits (sym c.waiter_pair.ensures ∙ c.in-Some.is)

pub returns-in_default-clause-waiters : goal.returns-in_default-clause-waiters
returns-in_default-clause-waiters c =
    kept_same (λ t. count_at c.args.waiters.now.counts t) (λ p. get same_place c.args.waiters.now.tasks p) (λ t. waiters_of t c.args.log.now.events) (λ t. waiters_of t (c.args.log.now.events ++ c.args.event ∷ []))
    (λ t. waiter_same t c.args.log.now.events c.args.event (sym c.waiter_pair.ensures ∙ c.in_default.is))
    c.requires.waiters
