use Rattle.swift_ledger.proofs.Prelude.{arith}
use Rattle.swift_ledger.proofs.lives.Lives.note.Goals as goal

pub returns-else-makes_task-clause-spare : goal.returns-else-makes_task-clause-spare
returns-else-makes_task-clause-spare c = λ n h. c.change.ensures.spare n (omega (arith, h))
