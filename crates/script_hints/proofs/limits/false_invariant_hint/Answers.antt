use Rattle.script_hints.proofs.Told.{hint_is}
use Rattle.script_hints.specs.Helps.{HelpsInvariant, never}
use Rattle.script_hints.proofs.limits.false_invariant_hint.Goals as goal

pub returns-in_default : goal.returns-in_default
returns-in_default c = hint_is HelpsInvariant _ c.of.result c.bytes-help.result never c.bytes-help.ensures c.of.ensures
