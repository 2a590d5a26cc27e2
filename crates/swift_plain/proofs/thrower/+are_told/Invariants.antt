use Rattle.std.proofs.Common.{length}
use Rattle.swift_plain.proofs.thrower.+are_told.Given as goal

abbrev pub decreases-are_told : goal.decreases-are_told
decreases-are_told l = length l.decls.now
