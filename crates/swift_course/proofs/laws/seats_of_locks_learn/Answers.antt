use Rattle.swift_course.proofs.Rule.{learns}
use Rattle.swift_course.proofs.laws.seats_of_locks_learn.Goals as goal

pub returns : goal.returns
returns c = learns
