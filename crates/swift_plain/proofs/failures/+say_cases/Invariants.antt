use Rattle.swift_plain.proofs.failures.+say_cases.Given as goal

abbrev pub decreases-say_cases : goal.decreases-say_cases
decreases-say_cases l = l.count
