use Rattle.swift_course.proofs.Parts.{ticket_parts}
use Rattle.swift_course.proofs.laws.tickets_may_be_parted.Goals as goal

pub returns : goal.returns
returns c = ticket_parts
