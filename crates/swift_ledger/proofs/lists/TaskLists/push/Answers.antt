use Rattle.swift_ledger.proofs.Prelude.{get, count_at, same_place}
use Rattle.swift_ledger.proofs.ListLemmas.{kept_pushed}
use Rattle.swift_ledger.proofs.lists.TaskLists.push.Goals as goal

pub returns-clause-lists : goal.returns-clause-lists
returns-clause-lists c = λ lists kept.
    kept_pushed (λ t. count_at c.args.self.now.counts t) (λ t. count_at c.set.new.self t) (λ p. get same_place c.args.self.now.tasks p) (λ p. get same_place c.insert.new.self p)
    lists c.args.task c.args.element c.len-place.result c.len-place.ensures.count c.set.ensures.updates c.in-Ok.ensures.updates.0 kept
