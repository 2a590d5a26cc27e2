use Rattle.std.proofs.Common.{sym}
use Rattle.swift_lowering.proofs.tasks.group_named.Goals as goal

pub returns-clause-found : goal.returns-clause-found
returns-clause-found c = record { named = c.in-Some.ensures.found; there = sym c.in-Some-binding_at.ensures; is = c.in-Group.is }
