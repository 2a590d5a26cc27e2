use Rattle.swift_course.proofs.Parts.{seat_learns}
use Rattle.swift_course.proofs.laws.seats_learn.Goals as goal

pub returns : goal.returns
returns c = seat_learns
