use Rattle.std.proofs.Common.{length}
use Rattle.swift_plain.proofs.call.+say_more_arguments.Given as goal

abbrev pub decreases-say_more_arguments : goal.decreases-say_more_arguments
decreases-say_more_arguments l = length l.args.now
