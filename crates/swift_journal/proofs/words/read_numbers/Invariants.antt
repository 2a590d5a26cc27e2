use Rattle.swift_journal.proofs.Prelude.{◌≡◌, take, numbers_of}
use Rattle.swift_journal.proofs.words.read_numbers.Given as goal

abbrev pub invariant-loop-word : goal.invariant-loop-word
invariant-loop-word l = l.numbers.items ≡ numbers_of (take l.word-index l.words)
