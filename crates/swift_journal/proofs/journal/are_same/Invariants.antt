use Rattle.swift_journal.proofs.Prelude.{◌≡◌, take}
use Rattle.swift_journal.proofs.journal.are_same.Given as goal

abbrev pub invariant-loop-place : goal.invariant-loop-place
invariant-loop-place l = take l.place l.effects ≡ take l.place l.others
