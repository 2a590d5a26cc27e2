use Rattle.std.proofs.Common.{sym, subst}
use Rattle.script_hints.proofs.Told.{hint_says}
use Rattle.script_hints.specs.Helps.{HelpsConfused, not_meant}
use Rattle.script_hints.proofs.names.confused.confused_hint.Goals as goal

pub returns-in_default : goal.returns-in_default
returns-in_default c = subst (HelpsConfused c.args.blamed) (sym c.none.ensures) not_meant

pub returns : goal.returns
returns c = hint_says (HelpsConfused c.args.blamed) c.of.result c.confused_text-help.result c.confused_text-help.ensures c.of.ensures
