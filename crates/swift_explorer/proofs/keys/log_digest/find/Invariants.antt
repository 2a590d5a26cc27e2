use Rattle.swift_explorer.proofs.Prelude.{◌<◌, ℕ, IsNamedAt}
use Rattle.swift_explorer.proofs.keys.log_digest.find.Given as goal

-- it is none of those before
abbrev pub invariant-loop-place : goal.invariant-loop-place
invariant-loop-place l = (i : ℕ) → i < l.place → IsNamedAt l.groups i l.owner.0 l.group → ⊥
