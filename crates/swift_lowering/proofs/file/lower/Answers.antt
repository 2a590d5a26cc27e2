use Rattle.swift_lowering.proofs.Filed.{none_before}
use Rattle.swift_lowering.proofs.file.lower.Goals as goal

pub returns-clause-code : goal.returns-clause-code
returns-clause-code c = λ n. c.lower_all-code.ensures.code (none_before c.lower_all-code.result.1 c.map-refused.result c.map-refused.ensures.variant n)
