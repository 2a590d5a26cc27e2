use Rattle.swift_reordering.proofs.Diamonds.{silent_commutes}
use Rattle.swift_reordering.proofs.laws.silent_turns_commute.Goals as goal

pub returns : goal.returns
returns c = silent_commutes
