use Rattle.script_hints.proofs.Told.{help_says}
use Rattle.script_hints.specs.Helps.{HelpsEnd}
use Rattle.script_hints.proofs.unexpected.end_hint.Goals as goal

pub returns : goal.returns
returns c = help_says HelpsEnd _ c.with_expected.result c.in_ok-hint.ensures c.with_expected.ensures
