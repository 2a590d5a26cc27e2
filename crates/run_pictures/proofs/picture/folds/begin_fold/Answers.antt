use Rattle.run_pictures.proofs.Drawing.{says_then}
use Rattle.run_pictures.proofs.picture.folds.begin_fold.Goals as goal

pub returns : goal.returns
returns c = says_then (says_then c.say.ensures c.number.ensures) c.say-2.ensures
