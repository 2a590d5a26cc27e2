use Rattle.swift_ledger.proofs.Prelude.{◌∙◌, ℕ, List, ap, arith, slice_index_or}
use Rattle.swift_ledger.proofs.CountLemmas.{pushed_none}
use Rattle.swift_ledger.proofs.counts.TaskCounts.fill.Goals as goal

pub fill-preserved : goal.fill-preserved
fill-preserved c = record {
  same = λ t. ap (λ (xs : List ℕ). slice_index_or xs t 0) c.push_reserved.ensures.items ∙ pushed_none c.fill.self.counts.items t ∙ c.fill.invariant.same t;
  places = (let k = c.push_reserved.ensures.capacity in let p = c.fill.invariant.places in omega (arith, k, p));
}
