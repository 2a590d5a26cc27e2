use Rattle.swift_explorer.proofs.Prelude.{take, AllZip, IsSameCard}
use Rattle.swift_explorer.proofs.keys.digest.copy_cards.Given as goal

abbrev pub invariant-loop-card : goal.invariant-loop-card
invariant-loop-card l = AllZip IsSameCard (take l.card-index l.cards) l.copy.items
