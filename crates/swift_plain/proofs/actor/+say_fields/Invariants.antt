use Rattle.std.proofs.Common.{length}
use Rattle.swift_plain.proofs.actor.+say_fields.Given as goal

abbrev pub decreases-say_fields : goal.decreases-say_fields
decreases-say_fields l = length l.fields.now
