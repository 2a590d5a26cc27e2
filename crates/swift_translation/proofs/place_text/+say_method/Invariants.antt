use Rattle.std.proofs.Common.{length}
use Rattle.swift_translation.proofs.place_text.+say_method.Given as goal

abbrev pub decreases-say_method : goal.decreases-say_method
decreases-say_method l = length l.places.now
