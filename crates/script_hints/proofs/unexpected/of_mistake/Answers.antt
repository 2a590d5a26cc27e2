use Rattle.std.proofs.Common.{◌∙◌, List, ℕ, Bor, map}
use Rattle.script_hints.proofs.Told.{filled_says, hint_says}
use Rattle.script_hints.specs.Helps.{HelpsUnexpected}
use Rattle.script_hints.proofs.unexpected.of_mistake.Goals as goal

pub returns : goal.returns
returns c = hint_says (HelpsUnexpected c.args.blamed) c.of.result c.filled_text-help.result (filled_says c.args.blamed (map (λ (x : Bor (List ℕ)). x.now) c.args.made.words.now) _ c.filled_text-help.result c.requires.known c.requires.stands (c.as_bytes.ensures.value ∙ c.help.ensures) c.filled_text-help.ensures) c.of.ensures
