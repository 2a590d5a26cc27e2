use Rattle.swift_tasks.proofs.Prelude.{subst, BookView}
use Rattle.swift_ledger.specs.Levels.{HaveStayed}
use Rattle.swift_tasks.proofs.book.Book.levels_changed.Goals as goal

pub returns : goal.returns
returns c = subst (λ (b : BookView). HaveStayed b.log c.levels_changed.result) c.self.view_is c.levels_changed.ensures
