use Rattle.swift_executor.proofs.OneRecord.{writes_all}
use Rattle.swift_executor.proofs.laws.turns_write_a_record_each.Goals as goal

pub returns : goal.returns
returns c = writes_all
