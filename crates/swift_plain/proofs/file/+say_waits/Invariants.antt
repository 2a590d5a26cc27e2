use Rattle.std.proofs.Common.{length}
use Rattle.swift_plain.proofs.file.+say_waits.Given as goal

abbrev pub decreases-say_waits : goal.decreases-say_waits
decreases-say_waits l = length l.left.now
