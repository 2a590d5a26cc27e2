use Rattle.swift_ledger.proofs.Prelude.{ℕ, subst, sym, LedgerView, HaveStayed}
use Rattle.swift_ledger.proofs.ledger.Ledger.levels_changed.Goals as goal

pub returns : goal.returns
returns c =
    subst (λ (b : LedgerView). HaveStayed b.log c.changed.result) c.self.view_is
    (subst (λ (n : ℕ). HaveStayed c.self.inside.log.events n) (sym c.changed.ensures) c.self.invariant.levels.since)
