use Rattle.swift_certificate.proofs.Prelude.{◌≡◌, ◌-◌, ◌≤◌, vec_len, replicate, vec_capacity, at_the_start}
use Rattle.swift_certificate.proofs.replay.first_places.Given as goal

abbrev pub invariant-fill : goal.invariant-fill
invariant-fill l = record {
  none : l.rows.items ≡ replicate (vec_len l.rows) at_the_start;
  few : vec_len l.rows ≤ l.executors;
  room : l.executors ≤ vec_capacity l.rows;
}

abbrev pub decreases-fill : goal.decreases-fill
decreases-fill l = l.executors - vec_len l.rows
