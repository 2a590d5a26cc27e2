use Rattle.swift_script.proofs.Starting.{start_well}
use Rattle.swift_script.proofs.laws.invariants_hold_at_the_start.Goals as goal

pub returns : goal.returns
returns c = start_well
