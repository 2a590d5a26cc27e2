use Rattle.swift_shared_book.proofs.CallsKeep.{apply_keeps}
use Rattle.swift_shared_book.proofs.laws.applied_turns_keep.Goals as goal

pub returns : goal.returns
returns c = apply_keeps
