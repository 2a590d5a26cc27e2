use Rattle.swift_course.proofs.Roots.{root_added}
use Rattle.swift_course.proofs.laws.roots_may_be_added.Goals as goal

pub returns : goal.returns
returns c = root_added
