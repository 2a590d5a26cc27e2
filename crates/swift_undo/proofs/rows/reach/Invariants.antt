use Rattle.swift_undo.proofs.Prelude.{◌≡◌, ℕ, ◌+◌, ◌-◌, [], get_or, length, places_of}
use Rattle.swift_undo.proofs.rows.reach.Given as goal

abbrev pub invariant-loop-alloc : goal.invariant-loop-alloc
invariant-loop-alloc l = (k : ℕ) → get_or (places_of l.readers.items) k [] ≡ get_or (places_of l.fn.readers.items) k []

abbrev pub decreases-loop-alloc : goal.decreases-loop-alloc
decreases-loop-alloc l = (l.row + 1) - length l.readers.items
