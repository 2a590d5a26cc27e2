use Rattle.swift_syntax.proofs.Grown.{grows_same}
use Rattle.swift_syntax.proofs.reader.Reader.note.Goals as goal

pub returns-else-not-is_grown-clause-grows : goal.returns-else-not-is_grown-clause-grows
returns-else-not-is_grown-clause-grows c = grows_same c.args.self.now
