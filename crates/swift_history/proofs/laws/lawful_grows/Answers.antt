use Rattle.swift_history.proofs.Replayed.{lawful_more}
use Rattle.swift_history.proofs.laws.lawful_grows.Goals as goal

pub returns : goal.returns
returns c = lawful_more
