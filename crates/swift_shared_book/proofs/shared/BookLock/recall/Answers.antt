use Rattle.swift_shared_book.proofs.RuleKept.{finds}
use Rattle.swift_shared_book.proofs.shared.BookLock.recall.Goals as goal

pub recall-requires-clause-rule : goal.recall-requires-clause-rule
recall-requires-clause-rule c = finds _
