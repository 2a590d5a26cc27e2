use Rattle.swift_workers.proofs.PoolLaws.{tokens_kept}
use Rattle.swift_workers.proofs.laws.tokens_are_kept.Goals as goal

pub returns : goal.returns
returns c = tokens_kept
