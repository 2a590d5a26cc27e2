use Rattle.swift_journal.proofs.Prelude.{◌≡◌, ◌++◌, length, map, take, folded_of}
use Rattle.swift_journal.proofs.checkpoint.write_ahead.Given as goal

abbrev pub invariant-loop-place : goal.invariant-loop-place
invariant-loop-place l = record {
  turns : l.turns ≡ l.initial.turns ++ map folded_of (take l.place l.journal);
  end : l.place-end ≡ length l.journal;
}
