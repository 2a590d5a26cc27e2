use Rattle.swift_journal.proofs.Prelude.{◌≡◌, ◌+◌, ◌≤◌, ◌++◌, length, take, vec_len, vec_capacity}
use Rattle.swift_journal.proofs.words.push_each.Given as goal

abbrev pub invariant-loop-word : goal.invariant-loop-word
invariant-loop-word l = record {
  items : l.words.items ≡ l.initial.words.items ++ take l.word-index l.more;
  room : vec_len l.words + length l.more ≤ vec_capacity l.words + l.word-index;
}
