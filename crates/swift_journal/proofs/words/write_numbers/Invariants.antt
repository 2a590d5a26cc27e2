use Rattle.swift_journal.proofs.Prelude.{◌≡◌, pos, ◌++◌, map, take, numbers_of}
use Rattle.swift_journal.proofs.words.write_numbers.Given as goal

abbrev pub invariant-loop-number : goal.invariant-loop-number
invariant-loop-number l = record {
  before : l.words.before ≡ l.initial.words.before;
  words : l.words.written ≡ l.initial.words.written ++ map pos (take l.number-index l.numbers);
  narrow : numbers_of (map pos (take l.number-index l.numbers)) ≡ take l.number-index l.numbers;
}
