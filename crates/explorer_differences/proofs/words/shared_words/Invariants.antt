use Rattle.std.proofs.Common.{◌≡◌, drop}
use Rattle.explorer_differences.specs.Words.{shared_words}
use Rattle.explorer_differences.proofs.words.shared_words.Given as goal

abbrev pub invariant-loop-at : goal.invariant-loop-at
invariant-loop-at l = shared_words (drop l.at l.first) (drop l.at l.second) l.at l.words ≡ shared_words l.first l.second 0 0
