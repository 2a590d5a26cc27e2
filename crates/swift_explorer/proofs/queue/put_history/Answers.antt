use Rattle.swift_explorer.proofs.Prelude.{sym, inl, inr, nat_eq}
use Rattle.std.proofs.Common.{eqb-true}
use Rattle.swift_explorer.proofs.HistoriesTaken.{filled}
use Rattle.swift_explorer.proofs.queue.put_history.Goals as goal

pub returns : goal.returns
returns c = λ q k at.
    elim (filled (nat_eq c.args.place q) _ _ c.args.kept (c.in_ok-insert.ensures.updates.0 q) k at) [
      | inl old ↦ inl old
      | inr new ↦ inr (sym (eqb-true c.args.place q new.0), new.1)
    ]
