use Rattle.swift_lowering.proofs.Grown.{reads_late}
use Rattle.swift_lowering.proofs.laws.an_operator_reads_late.Goals as goal

pub returns : goal.returns
returns c = λ s u name is_own place o h. reads_late h
