use Rattle.swift_reordering.proofs.Naming.{turns_spare}
use Rattle.swift_reordering.proofs.laws.turns_spare.Goals as goal

pub returns : goal.returns
returns c = turns_spare
