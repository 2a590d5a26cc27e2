use Rattle.swift_script.proofs.Prelude.{◌≡◌, ◌≤◌, map, take, count_by, is_some, view_actor}
use Rattle.swift_script.proofs.start.invariants_before.Given as goal

abbrev pub invariant-loop-k : goal.invariant-loop-k
invariant-loop-k l = record {
  counted : l.count ≡ count_by (λ a. is_some a.invariant) (take l.k (map view_actor l.actors));
  within : l.k ≤ l.place;
}
