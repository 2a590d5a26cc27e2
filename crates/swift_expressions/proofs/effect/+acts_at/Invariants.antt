use Rattle.swift_expressions.proofs.effect.+acts_at.Given as goal

abbrev pub decreases-acts_at : goal.decreases-acts_at
decreases-acts_at l = l.depth
