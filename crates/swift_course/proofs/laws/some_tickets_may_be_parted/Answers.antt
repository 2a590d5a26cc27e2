use Rattle.swift_course.proofs.Parts.{tickets_part}
use Rattle.swift_course.proofs.laws.some_tickets_may_be_parted.Goals as goal

pub returns : goal.returns
returns c = tickets_part
