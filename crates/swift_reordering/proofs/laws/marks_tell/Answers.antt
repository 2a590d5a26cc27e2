use Rattle.swift_reordering.proofs.Marks.{marks_tell}
use Rattle.swift_reordering.proofs.laws.marks_tell.Goals as goal

pub returns : goal.returns
returns c = marks_tell
