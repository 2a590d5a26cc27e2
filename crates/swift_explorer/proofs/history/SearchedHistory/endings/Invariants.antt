use Rattle.swift_explorer.proofs.Prelude.{◌≡◌, length, AreEnded}
use Rattle.swift_explorer.proofs.history.SearchedHistory.endings.Given as goal

abbrev pub invariant-loop-place : goal.invariant-loop-place
invariant-loop-place l = record {
  many : length l.endings.items ≡ l.place;
  are : AreEnded l.self.steps.book.log l.endings.items;
}
