use Rattle.run_pictures.proofs.Drawing.{says_then}
use Rattle.run_pictures.proofs.picture.card.write_parts.Goals as goal

pub returns : goal.returns
returns c = λ es names.
    says_then (says_then (says_then (says_then (says_then c.say.ensures (c.write_title.ensures es names)) c.say-2.ensures) c.say-3.ensures) c.write_outline.ensures) c.say-4.ensures
