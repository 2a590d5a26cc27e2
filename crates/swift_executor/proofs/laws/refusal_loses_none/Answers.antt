use Rattle.swift_executor.proofs.AccountKept.{put_back}
use Rattle.swift_executor.proofs.laws.refusal_loses_none.Goals as goal

pub returns : goal.returns
returns c = put_back
