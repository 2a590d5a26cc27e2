use Rattle.swift_ledger.proofs.Prelude.{arith}
use Rattle.swift_ledger.proofs.FormLemmas.{made_below}
use Rattle.swift_ledger.proofs.ledger.Ledger.levels.Goals as goal

pub refresh-requires-clause-known : goal.refresh-requires-clause-known
refresh-requires-clause-known c = λ t made.
    let s = c.self.inside in
    omega (arith, made_below s.roots s.log.events t c.self.invariant.form made, c.len-tasks.ensures s.roots s.log.events c.self.invariant.indexes.lives)
