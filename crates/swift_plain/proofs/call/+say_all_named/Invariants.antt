use Rattle.std.proofs.Common.{length}
use Rattle.swift_plain.proofs.call.+say_all_named.Given as goal

abbrev pub decreases-say_all_named : goal.decreases-say_all_named
decreases-say_all_named l = length l.args.now
