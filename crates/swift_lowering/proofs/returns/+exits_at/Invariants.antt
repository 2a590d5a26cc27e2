use Rattle.swift_lowering.proofs.returns.+exits_at.Given as goal

abbrev pub decreases-exits_at : goal.decreases-exits_at
decreases-exits_at l = l.depth
