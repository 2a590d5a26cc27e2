use Rattle.swift_shared_book.proofs.Prelude.{run_begins}
use Rattle.swift_shared_book.proofs.laws.empty_books_begin.Goals as goal

pub returns : goal.returns
returns c = run_begins
