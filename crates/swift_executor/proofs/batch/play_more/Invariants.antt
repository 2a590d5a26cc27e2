use Rattle.swift_executor.proofs.Prelude.{◌≡◌, None, take}
use Rattle.futures.specs.Task.{Keeps}
use Rattle.swift_executor.proofs.Batches.{PlayExactly}
use Rattle.swift_executor.proofs.batch.play_more.Given as goal

abbrev pub invariant-loop-at : goal.invariant-loop-at
invariant-loop-at l = record {
  exact : PlayExactly l.worker l.initial.state (take l.at l.asides) l.state;
  free : l.state.chosen ≡ None;
  kept : Keeps l.initial.cx l.cx;
}
