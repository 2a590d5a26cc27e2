use Rattle.swift_course.proofs.Parts.{book_stays}
use Rattle.swift_course.proofs.laws.books_may_stay.Goals as goal

pub returns : goal.returns
returns c = book_stays
