use Rattle.swift_course.proofs.Left.{may_be_folded}
use Rattle.swift_course.proofs.counts.records_may_be_folded.Goals as goal

pub returns : goal.returns
returns c = may_be_folded
