use Rattle.std.proofs.Common.{◌≡◌, None}
use Rattle.swift_word.specs.Seat.{IsSeatOf}
use Rattle.test_parts.proofs.word.take_turns.Given as goal

abbrev pub invariant-loop : goal.invariant-loop
invariant-loop g l = IsSeatOf l.word l.seat × (l.seat.holding ≡ None)
