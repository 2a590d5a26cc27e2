use Rattle.swift_laws.proofs.WholeRuns.{folded_known}
use Rattle.swift_laws.proofs.whole.folded_turns_are_known.Goals as goal

pub returns : goal.returns
returns c = folded_known
