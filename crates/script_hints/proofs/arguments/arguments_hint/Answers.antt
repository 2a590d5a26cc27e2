use Rattle.std.proofs.Common.{sym, subst}
use Rattle.script_hints.proofs.Told.{hint_is}
use Rattle.script_hints.specs.Helps.{HelpsArguments, no_counts, counts}
use Rattle.script_hints.proofs.arguments.arguments_hint.Goals as goal

pub returns-in_default : goal.returns-in_default
returns-in_default c = subst (HelpsArguments c.args.blamed) (sym c.none.ensures) no_counts

pub returns : goal.returns
returns c = hint_is (HelpsArguments c.args.blamed) _ c.of.result c.arguments_text-help.result (counts c.in-Some.place _ _ c.in-Some.ensures) c.arguments_text-help.ensures c.of.ensures
