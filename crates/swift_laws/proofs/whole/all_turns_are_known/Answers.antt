use Rattle.swift_laws.proofs.WholeRuns.{all_known}
use Rattle.swift_laws.proofs.whole.all_turns_are_known.Goals as goal

pub returns : goal.returns
returns c = all_known
