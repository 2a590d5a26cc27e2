use Rattle.swift_reordering.proofs.SilentEnds.{silently_exits}
use Rattle.swift_reordering.proofs.laws.silently_closed_histories_have_each_exit.Goals as goal

pub returns : goal.returns
returns c = silently_exits
