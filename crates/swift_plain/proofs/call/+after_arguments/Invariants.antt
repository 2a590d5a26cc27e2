use Rattle.std.proofs.Common.{length}
use Rattle.swift_plain.proofs.call.+after_arguments.Given as goal

abbrev pub decreases-after_arguments : goal.decreases-after_arguments
decreases-after_arguments l = length l.args.now
