use Rattle.std.proofs.Common.{◌≡◌, None}
use Rattle.swift_word.specs.Seat.{IsSeatOf}
use Rattle.test_parts.proofs.word.take_turn.Given as goal

abbrev pub invariant-loop : goal.invariant-loop
invariant-loop g l =
    (goal.iterator-loop g).can_next l.iterator' × (goal.iterator-loop g).is_finite l.iterator' × IsSeatOf l.word l.seat × (l.seat.holding ≡ None)
