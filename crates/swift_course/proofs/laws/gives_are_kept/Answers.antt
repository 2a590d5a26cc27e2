use Rattle.swift_course.proofs.Rule.{gives}
use Rattle.swift_course.proofs.laws.gives_are_kept.Goals as goal

pub returns : goal.returns
returns c = gives
