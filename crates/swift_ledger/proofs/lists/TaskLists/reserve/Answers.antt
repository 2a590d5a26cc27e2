use Rattle.swift_ledger.proofs.Prelude.{get, count_at, same_place}
use Rattle.swift_ledger.proofs.ListLemmas.{kept_again}
use Rattle.swift_ledger.proofs.lists.TaskLists.reserve.Goals as goal

pub returns-clause-same : goal.returns-clause-same
returns-clause-same c = λ lists kept.
    kept_again (λ t. count_at c.args.self.now.counts t) (λ t. count_at c.reserve.new.self t) (λ p. get same_place c.args.self.now.tasks p) (λ p. get same_place c.reserve-2.new.self p)
    lists c.reserve.ensures.same c.reserve-2.ensures.entries.2 kept
