use Rattle.swift_reordering.proofs.AheadWalk.{closed_ahead}
use Rattle.swift_reordering.proofs.laws.histories_closed_ahead_have_each_outcome.Goals as goal

pub returns : goal.returns
returns c = closed_ahead
