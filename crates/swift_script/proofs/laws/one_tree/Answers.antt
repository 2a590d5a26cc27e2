use Rattle.swift_script.proofs.Accepting.{same_spelled}
use Rattle.swift_script.proofs.laws.one_tree.Goals as goal

pub returns : goal.returns
returns c = same_spelled
