use Rattle.std.proofs.Common.{length}
use Rattle.swift_translation.proofs.spelling.+ends_low.Given as goal

abbrev pub decreases-ends_low : goal.decreases-ends_low
decreases-ends_low l = length l.name.now
