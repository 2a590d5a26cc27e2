use Rattle.swift_explorer.proofs.Prelude.{refl}
use Rattle.swift_explorer.proofs.keys.log_digest.NamedGroup.copy.Goals as goal

pub returns : goal.returns
returns c = record { owner = refl; group = refl; card = c.in_ok-card.ensures }
