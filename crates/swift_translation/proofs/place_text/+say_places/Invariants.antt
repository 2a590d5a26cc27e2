use Rattle.std.proofs.Common.{length}
use Rattle.swift_translation.proofs.place_text.+say_places.Given as goal

abbrev pub decreases-say_places : goal.decreases-say_places
decreases-say_places l = length l.places.now
