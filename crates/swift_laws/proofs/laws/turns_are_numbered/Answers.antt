use Rattle.swift_laws.proofs.Prelude.{sym, subst, ◌≡◌, length, List, [], range_with_len, Event, turns_of}
use Rattle.swift_laws.proofs.HistoriesApplied.{standing_applied}
use Rattle.swift_laws.proofs.HistoriesTurns.{all_keep, first_counted}
use Rattle.swift_laws.proofs.laws.turns_are_numbered.Goals as goal

pub returns : goal.returns
returns c = λ script report t legal. (
  subst (λ (l : List Event). turns_of t l ≡ range_with_len 0 (length (turns_of t l))) (sym legal.log)
      ((all_keep script report.checkpoints [] legal.blocks legal.stand (first_counted script)).numbered t),
  standing_applied script report t legal,
)
