use Rattle.swift_course.proofs.Whole.{report_has_whole}
use Rattle.swift_course.proofs.laws.runs_are_whole.Goals as goal

pub returns : goal.returns
returns c = report_has_whole
