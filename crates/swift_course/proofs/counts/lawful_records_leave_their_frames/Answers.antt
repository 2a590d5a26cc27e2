use Rattle.swift_course.proofs.Left.{record_leaves}
use Rattle.swift_course.proofs.counts.lawful_records_leave_their_frames.Goals as goal

pub returns : goal.returns
returns c = record_leaves
