use Rattle.std.specs.Prelude.{All}
use Rattle.swift_translation.specs.MethodPlaces.{IsPlaceIn}
use Rattle.swift_translation.proofs.places.places.Given as goal

abbrev pub invariant-loop-declared : goal.invariant-loop-declared
invariant-loop-declared l = All (IsPlaceIn l.text) l.found.items
