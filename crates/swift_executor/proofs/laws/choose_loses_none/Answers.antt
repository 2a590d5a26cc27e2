use Rattle.swift_executor.proofs.AccountKept.{chose, had_none, lacked}
use Rattle.swift_executor.proofs.laws.choose_loses_none.Goals as goal

pub returns-clause-some : goal.returns-clause-some
returns-clause-some c = chose

pub returns-clause-err : goal.returns-clause-err
returns-clause-err c = lacked

pub returns-clause-none : goal.returns-clause-none
returns-clause-none c = had_none
