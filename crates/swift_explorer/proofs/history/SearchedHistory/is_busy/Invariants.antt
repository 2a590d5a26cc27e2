use Rattle.swift_explorer.proofs.Prelude.{◌≡◌, ◌<◌, ℕ, false, Some, arc_value, life_of, is_begun, AreOf, seat_of}
use Rattle.swift_explorer.proofs.history.SearchedHistory.is_busy.Given as goal

-- none of the tasks before runs a turn there
abbrev pub invariant-loop-place : goal.invariant-loop-place
invariant-loop-place l = AreOf (arc_value l.self.steps.script) l.self.steps.tasks.items → (u : ℕ) → u < l.place → seat_of (arc_value l.self.steps.script) l.self.steps.tasks.items u ≡ Some l.executor → is_begun (life_of u l.self.steps.book.log).stage ≡ false
