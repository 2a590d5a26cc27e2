use Rattle.swift_tasks.proofs.Prelude.{◌≡◌, ◌<◌, ℕ, true, is_closed}
use Rattle.swift_tasks.proofs.book.Book.has_closed_all.Given as goal

abbrev pub invariant-loop-group : goal.invariant-loop-group
invariant-loop-group l = (g : ℕ) → g < l.group → is_closed l.task.0 g l.self.log ≡ true
