use Rattle.std.proofs.Common.{length}
use Rattle.swift_translation.proofs.spelling.+begins.Given as goal

abbrev pub decreases-begins : goal.decreases-begins
decreases-begins l = length l.prefix.now
