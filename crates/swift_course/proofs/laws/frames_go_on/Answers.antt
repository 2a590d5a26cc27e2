use Rattle.swift_course.proofs.Frames.{frames_go_on}
use Rattle.swift_course.proofs.laws.frames_go_on.Goals as goal

pub returns : goal.returns
returns c = frames_go_on
