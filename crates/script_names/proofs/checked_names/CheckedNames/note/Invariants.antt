use Rattle.script_names.proofs.Prelude.{◌≡◌, ◌+◌, ◌-◌, ℕ, length, get_or}
use Rattle.script_names.proofs.checked_names.CheckedNames.note.Given as goal

abbrev pub invariant-loop-self : goal.invariant-loop-self
invariant-loop-self l = (k : ℕ) → get_or l.self-inside.counts.items k 0 ≡ get_or l.fn.self k 0

abbrev pub decreases-loop-self : goal.decreases-loop-self
decreases-loop-self l = (l.actor + 1) - length l.self-inside.counts.items
