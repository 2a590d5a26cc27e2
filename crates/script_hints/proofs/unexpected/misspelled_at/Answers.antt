use Rattle.std.proofs.Common.{sym, subst}
use Rattle.script_hints.specs.Helps.{HelpsUnexpected, no_help}
use Rattle.script_hints.proofs.unexpected.misspelled_at.Goals as goal

pub returns : goal.returns
returns c = subst (HelpsUnexpected c.args.blamed) (sym c.none.ensures) no_help
