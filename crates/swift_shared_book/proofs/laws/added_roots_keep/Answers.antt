use Rattle.swift_shared_book.proofs.CallsKeep.{root_keeps}
use Rattle.swift_shared_book.proofs.laws.added_roots_keep.Goals as goal

pub returns : goal.returns
returns c = root_keeps
