use Rattle.script_hints.proofs.Told.{text_says}
use Rattle.script_hints.specs.Helps.{HelpsInvariant, starts}
use Rattle.script_hints.proofs.limits.starts_text.Goals as goal

pub returns : goal.returns
returns c = text_says HelpsInvariant _ c.joined.result (starts _) c.joined.ensures
