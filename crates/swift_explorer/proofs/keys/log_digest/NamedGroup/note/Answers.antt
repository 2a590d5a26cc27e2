use Rattle.swift_explorer.proofs.Prelude.{refl}
use Rattle.swift_explorer.proofs.keys.log_digest.NamedGroup.note.Goals as goal

pub returns : goal.returns
returns c =
    let e = c.in_ok-note.ensures in
    record {
      owner = refl;
      group = refl;
      card = record { children = e.children; added = e.added; ended = e.ended; asked = e.asked; closed = e.closed; named = e.named };
    }
