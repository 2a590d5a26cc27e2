use Rattle.swift_shared_book.proofs.CallsKeep.{begin_keeps}
use Rattle.swift_shared_book.proofs.laws.begun_turns_keep.Goals as goal

pub returns : goal.returns
returns c = begin_keeps
