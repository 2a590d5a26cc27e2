use Rattle.swift_certificate.proofs.Prelude.{◌≡◌, take}
use Rattle.swift_certificate.proofs.ends.is_same_log.Given as goal

abbrev pub invariant-loop-place : goal.invariant-loop-place
invariant-loop-place l = take l.place l.log.events ≡ take l.place l.other.events
