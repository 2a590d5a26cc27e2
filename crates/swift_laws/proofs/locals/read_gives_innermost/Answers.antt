use Rattle.swift_laws.proofs.InnermostReads.{reads_innermost}
use Rattle.swift_laws.proofs.locals.read_gives_innermost.Goals as goal

pub returns : goal.returns
returns c = reads_innermost
