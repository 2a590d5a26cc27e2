use Rattle.std.proofs.Common.{length}
use Rattle.swift_plain.proofs.file.+say_actors.Given as goal

abbrev pub decreases-say_actors : goal.decreases-say_actors
decreases-say_actors l = length l.left.now
