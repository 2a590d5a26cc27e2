use Rattle.std.proofs.Common.{length}
use Rattle.swift_plain.proofs.thrower.+methods_are_told.Given as goal

abbrev pub decreases-methods_are_told : goal.decreases-methods_are_told
decreases-methods_are_told l = length l.methods.now
