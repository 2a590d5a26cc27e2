use Rattle.std.proofs.Common.{length}
use Rattle.swift_plain.proofs.actor.+say_more_params.Given as goal

abbrev pub decreases-say_more_params : goal.decreases-say_more_params
decreases-say_more_params l = length l.params.now
