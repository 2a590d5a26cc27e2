use Rattle.swift_certificate.proofs.Replays.{replayed}
use Rattle.swift_certificate.proofs.laws.legal_reports_are_replayed.Goals as goal

pub returns : goal.returns
returns c = λ script report e journal checkpoint fields legal has. replayed c.lawful_grows.ensures script report e journal checkpoint fields legal has
