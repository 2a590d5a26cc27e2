use Rattle.swift_undo.proofs.Prelude.{take, AreListed, places_of}
use Rattle.swift_undo.proofs.rows.readers_of.Given as goal

abbrev pub invariant-loop-place : goal.invariant-loop-place
invariant-loop-place l = AreListed (places_of l.readers.items) (take l.place l.rows)
