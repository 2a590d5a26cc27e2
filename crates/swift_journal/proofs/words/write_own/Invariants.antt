use Rattle.swift_journal.proofs.Prelude.{◌≡◌, ◌++◌, map, take, pair_words, AreNarrow, pair_of}
use Rattle.swift_journal.proofs.words.write_own.Given as goal

abbrev pub invariant-loop-binding : goal.invariant-loop-binding
invariant-loop-binding l = record {
  before : l.words.before ≡ l.initial.words.before;
  words : l.words.written ≡ l.initial.words.written ++ pair_words (take l.binding-index (map pair_of l.own));
  narrow : AreNarrow (take l.binding-index (map pair_of l.own));
}
