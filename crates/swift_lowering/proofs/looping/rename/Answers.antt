use Rattle.swift_lowering.proofs.Blocked.{renamed_by}
use Rattle.swift_lowering.proofs.looping.rename.Goals as goal

pub returns-clause-renames : goal.returns-clause-renames
returns-clause-renames c = λ n. renamed_by c.name_variable.result (λ is. c.name_variable.ensures.named is n) (λ no. c.name_variable.ensures.other no n)
