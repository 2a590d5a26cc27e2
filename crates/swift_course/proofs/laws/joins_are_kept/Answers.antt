use Rattle.swift_course.proofs.Rule.{joins}
use Rattle.swift_course.proofs.laws.joins_are_kept.Goals as goal

pub returns : goal.returns
returns c = joins
