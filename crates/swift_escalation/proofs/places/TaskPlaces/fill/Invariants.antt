use Rattle.swift_escalation.proofs.Prelude.{◌≡◌, ℕ, ◌+◌, ◌-◌, vec_len, place_in, HasRoom}
use Rattle.swift_escalation.proofs.places.TaskPlaces.fill.Given as goal

abbrev pub invariant-fill : goal.invariant-fill
invariant-fill l = record {
  same : (n : ℕ) → place_in l.self n ≡ place_in l.fn.self n;
  room : (n : ℕ) → HasRoom l.fn.self n → HasRoom l.self n;
}

abbrev pub decreases-fill : goal.decreases-fill
decreases-fill l = l.place + 1 - vec_len l.self.listed
