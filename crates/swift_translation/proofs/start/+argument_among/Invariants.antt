use Rattle.std.proofs.Common.{length}
use Rattle.swift_translation.proofs.start.+argument_among.Given as goal

abbrev pub decreases-argument_among : goal.decreases-argument_among
decreases-argument_among l = length l.params.now
