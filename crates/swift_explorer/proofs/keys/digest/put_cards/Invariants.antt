use Rattle.swift_explorer.proofs.Prelude.{◌≡◌, ◌≤◌, ◌++◌, length, each_numbers, card_numbers, Digest, AreCards}
use Rattle.swift_explorer.proofs.keys.digest.put_cards.Given as goal

abbrev pub invariant-loop-card : goal.invariant-loop-card
invariant-loop-card l = record {
  key : (d : Digest) → AreCards l.cards (length l.cards) d → l.key.items ≡ l.initial.key.items ++ each_numbers card_numbers d.cards l.card-index;
  few : l.card-index ≤ length l.cards;
}
