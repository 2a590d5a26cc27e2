use Rattle.std.proofs.Common.{length}
use Rattle.swift_plain.proofs.file.+say_roots.Given as goal

abbrev pub decreases-say_roots : goal.decreases-say_roots
decreases-say_roots l = length l.left.now
