use Rattle.swift_translation.proofs.value.+write_more.Given as goal

abbrev pub decreases-write_more : goal.decreases-write_more
decreases-write_more l = l.most
