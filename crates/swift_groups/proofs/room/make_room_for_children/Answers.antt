use Rattle.swift_groups.proofs.room.make_room_for_children.Goals as goal

pub returns-clause-marks : goal.returns-clause-marks
returns-clause-marks c = λ i t. c.reserve-2.ensures.entries.2 (i, t)
