use Rattle.swift_ledger.proofs.Prelude.{arith}
use Rattle.swift_ledger.proofs.ledger.Ledger.env.Goals as goal

pub returns-clause-begins : goal.returns-clause-begins
returns-clause-begins c = λ n. (c.requires, omega (arith, c.room-room.ensures.fits))
