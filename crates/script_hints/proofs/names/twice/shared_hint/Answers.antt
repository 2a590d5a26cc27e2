use Rattle.std.proofs.Common.{sym, subst}
use Rattle.script_hints.specs.Helps.{HelpsTwice, not_taken}
use Rattle.script_hints.proofs.names.twice.shared_hint.Goals as goal

pub returns-in-None : goal.returns-in-None
returns-in-None c = subst (HelpsTwice c.args.blamed) (sym c.none.ensures) not_taken
