use Rattle.swift_certificate.proofs.Prelude.{◌≡◌, take, rows_of}
use Rattle.swift_certificate.proofs.ends.are_same_fields.Given as goal

abbrev pub invariant-loop-place : goal.invariant-loop-place
invariant-loop-place l = rows_of (take l.place l.rows) ≡ rows_of (take l.place l.others)
