use Rattle.swift_undo.proofs.KeptTurns.{undone_changes_nothing}
use Rattle.swift_undo.proofs.laws.undone_turn_changes_nothing.Goals as goal

pub returns : goal.returns
returns c = undone_changes_nothing
