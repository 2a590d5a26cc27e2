use Rattle.swift_explorer.proofs.Prelude.{◌+◌, ◌-◌, ◌^◌, ◌≤◌, length, vec_len, AreMoreCards}
use Rattle.swift_explorer.proofs.keys.digest.cover.Given as goal

abbrev pub invariant-cover : goal.invariant-cover
invariant-cover l = record {
  more : AreMoreCards l.fn.cards.items l.cards.items;
  few : length l.fn.cards.items ≤ 2 ^ 32 → length l.cards.items ≤ 2 ^ 32;
}

abbrev pub decreases-cover : goal.decreases-cover
decreases-cover l = l.place + 1 - vec_len l.cards
