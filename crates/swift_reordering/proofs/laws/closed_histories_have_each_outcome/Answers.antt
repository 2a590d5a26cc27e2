use Rattle.swift_reordering.proofs.Closed.{closed_outcome}
use Rattle.swift_reordering.proofs.laws.closed_histories_have_each_outcome.Goals as goal

pub returns : goal.returns
returns c = closed_outcome
