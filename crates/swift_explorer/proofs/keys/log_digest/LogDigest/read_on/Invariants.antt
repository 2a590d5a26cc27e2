use Rattle.swift_explorer.proofs.Prelude.{◌≤◌, take, length, IsRead}
use Rattle.swift_explorer.proofs.keys.log_digest.LogDigest.read_on.Given as goal

abbrev pub invariant-loop-place : goal.invariant-loop-place
invariant-loop-place l = record {
  read : IsRead l.self (take l.place l.log.events);
  short : l.place ≤ length l.log.events;
}
