use Rattle.script_hints.proofs.Told.{hint_is}
use Rattle.script_hints.specs.Helps.{HelpsTwice, taken}
use Rattle.script_hints.proofs.names.twice.taken_hint.Goals as goal

pub returns : goal.returns
returns c = hint_is (HelpsTwice c.args.blamed) _ c.of.result c.taken_text-help.result (taken c.args.place c.args.kind c.requires) c.taken_text-help.ensures c.of.ensures
