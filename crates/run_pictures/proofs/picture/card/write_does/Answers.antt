use Rattle.run_pictures.proofs.Drawing.{says_then}
use Rattle.run_pictures.proofs.picture.card.write_does.Goals as goal

pub returns : goal.returns
returns c =
    says_then (says_then (says_then (says_then (says_then (says_then c.method.ensures c.say.ensures) c.env.ensures) c.say-2.ensures) c.resume.ensures) c.say-3.ensures) c.exit.ensures
