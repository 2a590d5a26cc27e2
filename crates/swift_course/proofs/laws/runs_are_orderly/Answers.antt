use Rattle.swift_course.proofs.Legal.{report_is_orderly}
use Rattle.swift_course.proofs.laws.runs_are_orderly.Goals as goal

pub returns : goal.returns
returns c = report_is_orderly
