use Rattle.swift_reordering.proofs.Waits.{begins_wait}
use Rattle.swift_reordering.proofs.laws.begins_may_wait.Goals as goal

pub returns : goal.returns
returns c = begins_wait
