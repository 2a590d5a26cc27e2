use Rattle.swift_explorer.proofs.Bytes.{bytes_read}
use Rattle.swift_explorer.proofs.keys.laws.bytes_are_read.Goals as goal

pub returns : goal.returns
returns c = bytes_read
