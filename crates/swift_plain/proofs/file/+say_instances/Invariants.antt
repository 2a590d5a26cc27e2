use Rattle.std.proofs.Common.{length}
use Rattle.swift_plain.proofs.file.+say_instances.Given as goal

abbrev pub decreases-say_instances : goal.decreases-say_instances
decreases-say_instances l = length l.left.now
