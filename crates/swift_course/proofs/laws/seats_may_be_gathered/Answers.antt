use Rattle.swift_course.proofs.Parts.{seat_gathers}
use Rattle.swift_course.proofs.laws.seats_may_be_gathered.Goals as goal

pub returns : goal.returns
returns c = seat_gathers
