use Rattle.swift_explorer.proofs.flags.+is_cancelled_below.Given as goal

abbrev pub decreases-is_cancelled_below : goal.decreases-is_cancelled_below
decreases-is_cancelled_below l = l.owners
