use Rattle.swift_workers.proofs.Prelude.{◌≡◌, ◌++◌, take}
use Rattle.swift_workers.proofs.pool.Pool.put_all.Given as goal

abbrev pub invariant-loop-put : goal.invariant-loop-put
invariant-loop-put l = record {
  tokens : l.self.tokens.items ≡ l.initial.self.tokens.items ++ take l.put l.tokens;
  under_way : l.self.under_way ≡ l.initial.self.under_way;
  halt : l.self.halt ≡ l.initial.self.halt;
}
