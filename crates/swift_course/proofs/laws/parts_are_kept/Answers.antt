use Rattle.swift_course.proofs.Rule.{parts}
use Rattle.swift_course.proofs.laws.parts_are_kept.Goals as goal

pub returns : goal.returns
returns c = parts
