use Rattle.swift_explorer.proofs.Prelude.{rules}
use Rattle.swift_explorer.proofs.LogsRead.{read_none}
use Rattle.swift_explorer.proofs.keys.log_digest.LogDigest.new.Goals as goal

pub returns : goal.returns
returns c = read_none _ (search rules) (search rules) (search rules) (search rules) (search rules)
