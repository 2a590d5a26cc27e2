use Rattle.swift_reordering.proofs.SilentEnds.{silently_closed}
use Rattle.swift_reordering.proofs.laws.silently_closed_histories_have_each_outcome.Goals as goal

pub returns : goal.returns
returns c = silently_closed
