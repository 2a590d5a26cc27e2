use Rattle.script_hints.proofs.Told.{help_says}
use Rattle.script_hints.specs.Helps.{HelpsUnexpected}
use Rattle.script_hints.proofs.unexpected.unexpected_hint.Goals as goal

pub returns : goal.returns
returns c = help_says (HelpsUnexpected c.args.blamed) _ c.with_expected.result c.in_ok-hint.ensures c.with_expected.ensures
