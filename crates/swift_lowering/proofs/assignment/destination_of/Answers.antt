use Rattle.swift_lowering.proofs.Stated.{goes_by, goes_to_name, goes_where}
use Rattle.swift_lowering.proofs.assignment.destination_of.Goals as goal

pub returns-then-is_own-clause-goes : goal.returns-then-is_own-clause-goes
returns-then-is_own-clause-goes c = goes_by _ _ c.own_destination.result c.if-is_own.true c.own_destination.ensures.own

pub returns-in-Some-clause-goes : goal.returns-in-Some-clause-goes
returns-in-Some-clause-goes c = goes_where c.if-is_own.false (goes_to_name c.in-Some.ensures.found)

pub returns-in-None-clause-goes : goal.returns-in-None-clause-goes
returns-in-None-clause-goes c = goes_by _ _ c.own_destination-in-None.result c.if-is_own.false (c.own_destination-in-None.ensures.bare c.in-None.ensures.none)
