use Rattle.std.proofs.Common.{length}
use Rattle.swift_plain.proofs.actor.+say_methods.Given as goal

abbrev pub decreases-say_methods : goal.decreases-say_methods
decreases-say_methods l = length l.methods.now
