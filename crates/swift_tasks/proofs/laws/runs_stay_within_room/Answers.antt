use Rattle.swift_tasks.proofs.WithinRoom.{within}
use Rattle.swift_tasks.proofs.laws.runs_stay_within_room.Goals as goal

pub returns : goal.returns
returns c = within
