use Rattle.swift_turn.proofs.Calls.{found, gone}
use Rattle.swift_turn.proofs.laws.bindings_end_with_their_method.Goals as goal

pub returns : goal.returns
returns c = record { found = found; gone = gone }
