use Rattle.swift_journal.proofs.Prelude.{◌≡◌, ◌++◌, reverse, take, pair_words, AreNarrow}
use Rattle.swift_journal.proofs.words.write_bindings.Given as goal

abbrev pub invariant-loop-place : goal.invariant-loop-place
invariant-loop-place l = record {
  before : l.words.before ≡ l.initial.words.before;
  words : l.words.written ≡ l.initial.words.written ++ pair_words (take l.place (reverse l.bindings));
  narrow : AreNarrow (take l.place (reverse l.bindings));
}
