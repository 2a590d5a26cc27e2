use Rattle.swift_ledger.proofs.Prelude.{[], ◌∷◌, ◌++◌, sym, ◌∙◌, arith, get, own_in, own_tasks, count_at, same_place, pushed}
use Rattle.swift_ledger.proofs.ListLemmas.{kept_same}
use Rattle.swift_ledger.proofs.RelativeLemmas.{length-filter_map, own_known, own_pushed, own_same}
use Rattle.swift_ledger.proofs.relatives.note_own.Goals as goal

pub push-requires-clause-short : goal.push-requires-clause-short
push-requires-clause-short c = omega (arith, c.requires.own.lengths c.in-Some.by.0, length-filter_map (own_in c.in-Some.by.0) c.args.log.now.events, c.requires.short)

pub returns-in-Some-clause-own : goal.returns-in-Some-clause-own
returns-in-Some-clause-own c =
    kept_same (λ t. count_at c.push.new.self.counts t) (λ p. get same_place c.push.new.self.tasks p) (pushed (λ t. own_tasks t c.args.log.now.events) c.in-Some.by c.in-Some.made) (λ t. own_tasks t (c.args.log.now.events ++ c.args.event ∷ []))
    (λ t. own_pushed t c.args.log.now.events c.args.event (c.in-Some.by, c.in-Some.made) (sym c.own_pair.ensures ∙ c.in-Some.is))
    (c.push.ensures.lists (λ t. own_tasks t c.args.log.now.events) c.requires.own)

pub push-requires-clause-known : goal.push-requires-clause-known
push-requires-clause-known c = own_known c.args.roots c.args.log.now.events c.args.event (c.in-Some.by, c.in-Some.made) c.requires.log c.requires.fits (sym c.own_pair.ensures ∙ c.in-Some.is)

pub returns-in_default-clause-own : goal.returns-in_default-clause-own
returns-in_default-clause-own c =
    kept_same (λ t. count_at c.args.own.now.counts t) (λ p. get same_place c.args.own.now.tasks p) (λ t. own_tasks t c.args.log.now.events) (λ t. own_tasks t (c.args.log.now.events ++ c.args.event ∷ []))
    (λ t. own_same t c.args.log.now.events c.args.event (sym c.own_pair.ensures ∙ c.in_default.is))
    c.requires.own
