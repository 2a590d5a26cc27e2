use Rattle.swift_reordering.proofs.Telling.{instructions_spare}
use Rattle.swift_reordering.proofs.laws.instructions_spare.Goals as goal

pub returns : goal.returns
returns c = instructions_spare
