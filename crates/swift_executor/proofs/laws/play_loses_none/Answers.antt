use Rattle.swift_executor.proofs.AccountKept.{was_played}
use Rattle.swift_executor.proofs.laws.play_loses_none.Goals as goal

pub returns : goal.returns
returns c = was_played
