use Rattle.std.proofs.Common.{sym, subst}
use Rattle.script_hints.specs.Helps.{HelpsUnexpected, no_help}
use Rattle.script_hints.proofs.unexpected.misspelled.Goals as goal

pub returns-in-None : goal.returns-in-None
returns-in-None c = subst (HelpsUnexpected c.args.blamed) (sym c.none.ensures) no_help
