use Rattle.std.proofs.Common.{refl}
use Rattle.swift_syntax.proofs.Grown.{extends_stmts}
use Rattle.swift_syntax.proofs.reader.Reader.link.Goals as goal

pub returns-in-Some-clause-extends : goal.returns-in-Some-clause-extends
returns-in-Some-clause-extends c = extends_stmts c.deref_mut.result.now (λ n. n) refl refl refl c.deref_mut.ensures.value
