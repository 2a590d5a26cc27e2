use Rattle.swift_undo.proofs.KeptTurns.{others_are_kept}
use Rattle.swift_undo.proofs.laws.other_turns_are_kept.Goals as goal

pub returns : goal.returns
returns c = others_are_kept
