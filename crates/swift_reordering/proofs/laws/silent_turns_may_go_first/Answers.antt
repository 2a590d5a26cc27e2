use Rattle.swift_reordering.proofs.Bringing.{goes_first}
use Rattle.swift_reordering.proofs.laws.silent_turns_may_go_first.Goals as goal

pub returns : goal.returns
returns c = goes_first
