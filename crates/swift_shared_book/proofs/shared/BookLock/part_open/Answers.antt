use Rattle.swift_shared_book.proofs.Prelude.{tickets_part, parts}
use Rattle.swift_shared_book.proofs.shared.BookLock.part_open.Goals as goal

pub split-parted-requires-clause-rule : goal.split-parted-requires-clause-rule
split-parted-requires-clause-rule g c = parts _ _ _ (tickets_part _ _)
