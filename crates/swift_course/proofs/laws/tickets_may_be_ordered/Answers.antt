use Rattle.swift_course.proofs.Ordered.{tickets_ordered}
use Rattle.swift_course.proofs.laws.tickets_may_be_ordered.Goals as goal

pub returns : goal.returns
returns c = tickets_ordered
