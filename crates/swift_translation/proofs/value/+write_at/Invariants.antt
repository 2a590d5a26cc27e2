use Rattle.swift_translation.proofs.value.+write_at.Given as goal

abbrev pub decreases-write_at : goal.decreases-write_at
decreases-write_at l = l.depth
