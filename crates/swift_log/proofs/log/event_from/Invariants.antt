use Rattle.std.proofs.Common.{◌≡◌, ◌+◌, take}
use Rattle.swift_log.specs.MarksInside.{count_in}
use Rattle.swift_log.proofs.log.event_from.Given as goal

abbrev pub invariant-loop-at : goal.invariant-loop-at
invariant-loop-at l = count_in (take l.at l.entries) + l.rest ≡ l.place
