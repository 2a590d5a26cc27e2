use Rattle.swift_course.proofs.Begins.{turn_begun}
use Rattle.swift_course.proofs.laws.turns_may_begin.Goals as goal

pub returns : goal.returns
returns c = turn_begun
