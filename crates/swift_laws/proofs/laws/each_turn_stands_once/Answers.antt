use Rattle.swift_laws.proofs.HistoriesOnce.{stands_once}
use Rattle.swift_laws.proofs.laws.each_turn_stands_once.Goals as goal

pub returns : goal.returns
returns c = stands_once
