use Rattle.swift_undo.proofs.KeptTurns.{invariants_kept}
use Rattle.swift_undo.proofs.laws.invariants_are_kept.Goals as goal

pub returns : goal.returns
returns c = invariants_kept
