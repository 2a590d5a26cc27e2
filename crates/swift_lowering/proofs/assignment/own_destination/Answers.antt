use Rattle.swift_lowering.specs.Assignments as assignments
use Rattle.swift_lowering.proofs.assignment.own_destination.Goals as goal

pub returns-in-Some-clause-own : goal.returns-in-Some-clause-own
returns-in-Some-clause-own c = assignments.to_own c.in-Some.ensures.found

pub returns-in-Some-clause-bare : goal.returns-in-Some-clause-bare
returns-in-Some-clause-bare c = λ free. assignments.to_field free c.in-Some.ensures.found
