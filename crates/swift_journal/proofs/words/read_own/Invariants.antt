use Rattle.swift_journal.proofs.Prelude.{◌≡◌, ◌+◌, map, drop, pairs_from, pair_of}
use Rattle.swift_journal.proofs.words.read_own.Given as goal

abbrev pub invariant-loop : goal.invariant-loop
invariant-loop l = record {
  own : map pair_of l.own.items ≡ pairs_from l.counter l.words;
  rest : l.rest ≡ drop (l.counter + l.counter) l.words;
}
