use Rattle.run_pictures.proofs.Drawing.{says_then}
use Rattle.run_pictures.proofs.picture.card.write_title.Goals as goal

pub returns : goal.returns
returns c = λ es names. says_then (says_then (c.write_who.ensures es names) c.say.ensures) c.write_does.ensures
