use Rattle.swift_course.proofs.Parts.{run_begins}
use Rattle.swift_course.proofs.laws.runs_begin.Goals as goal

pub returns : goal.returns
returns c = run_begins
