use Rattle.swift_ledger.proofs.Prelude.{◌≡◌, ℕ, ◌+◌, ◌-◌, vec_len, count_at, HasPlaces}
use Rattle.swift_ledger.proofs.counts.TaskCounts.fill.Given as goal

abbrev pub invariant-fill : goal.invariant-fill
invariant-fill l = record {
  same : (t : ℕ) → count_at l.self t ≡ count_at l.fn.self t;
  places : HasPlaces l.self;
}

abbrev pub decreases-fill : goal.decreases-fill
decreases-fill l = l.place + 1 - vec_len l.self.counts
