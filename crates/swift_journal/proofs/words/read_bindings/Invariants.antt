use Rattle.swift_journal.proofs.Prelude.{◌≡◌, ◌+◌, reverse, drop, pairs_from}
use Rattle.swift_journal.proofs.words.read_bindings.Given as goal

abbrev pub invariant-loop : goal.invariant-loop
invariant-loop l = record {
  bindings : l.bindings ≡ reverse (pairs_from l.counter l.words);
  rest : l.rest ≡ drop (l.counter + l.counter) l.words;
}
