use Rattle.swift_history.proofs.Replayed.{replay_holds}
use Rattle.swift_history.proofs.laws.invariants_stay.Goals as goal

pub returns : goal.returns
returns c = replay_holds c.invariants_are_kept.ensures
