use Rattle.swift_script.proofs.Prelude.{◌≡◌, map, ◌+◌, drop, piece, place_of, passes}
use Rattle.swift_script.proofs.place.place_of.Given as goal

abbrev pub invariant-loop-place : goal.invariant-loop-place
invariant-loop-place l = l.place + place_of (passes l.sought) l.left (map piece (drop l.place l.tokens)) ≡ place_of (passes l.sought) l.before (map piece l.tokens)
