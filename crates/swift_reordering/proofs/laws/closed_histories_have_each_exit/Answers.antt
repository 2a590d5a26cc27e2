use Rattle.swift_reordering.proofs.Closed.{closed_exit}
use Rattle.swift_reordering.proofs.laws.closed_histories_have_each_exit.Goals as goal

pub returns : goal.returns
returns c = closed_exit
