use Rattle.swift_course.proofs.Applied.{turn_applied_is}
use Rattle.swift_course.proofs.laws.turns_may_be_applied.Goals as goal

pub returns : goal.returns
returns c = turn_applied_is
