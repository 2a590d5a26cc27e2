use Rattle.swift_executor.proofs.OneRecord.{writes_one}
use Rattle.swift_executor.proofs.laws.a_turn_writes_one_record.Goals as goal

pub returns : goal.returns
returns c = writes_one
