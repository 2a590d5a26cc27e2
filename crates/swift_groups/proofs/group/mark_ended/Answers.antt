use Rattle.swift_groups.proofs.Prelude.{true}
use Rattle.swift_groups.proofs.group.mark_ended.Goals as goal

pub returns-in-Some-clause-written : goal.returns-in-Some-clause-written
returns-in-Some-clause-written c = λ i t. ((c.get_mut.follows.holds true).3 c.requires).0 (i, t)
