use Rattle.swift_executor.proofs.AccountKept.{given_up}
use Rattle.swift_executor.proofs.laws.parts_are_what_was_taken.Goals as goal

pub returns : goal.returns
returns c = given_up
