use Rattle.swift_explorer.proofs.DigestCodes.{written_read}
use Rattle.swift_explorer.proofs.keys.laws.digests_are_read.Goals as goal

pub returns : goal.returns
returns c = written_read
