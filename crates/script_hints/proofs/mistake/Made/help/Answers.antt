use Rattle.std.proofs.Common.{refl}
use Rattle.script_hints.proofs.Told.{word_is}
use Rattle.script_hints.proofs.mistake.Made.help.Goals as goal

pub returns : goal.returns
returns c = word_is c.args.self.words.now 8 _ refl
