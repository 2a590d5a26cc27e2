use Rattle.script_context.specs.declared.wanted.Wanted.TheVariants as wanted
use Rattle.script_hints.proofs.Told.{hint_is, help_says}
use Rattle.script_hints.specs.Helps.{HelpsUnknown, near, undeclared}
use Rattle.script_hints.proofs.names.unknown.nearly.Goals as goal

pub returns-in-Some : goal.returns-in-Some
returns-in-Some c = hint_is (HelpsUnknown c.args.blamed) _ c.of.result c.near_text.result (near c.args.place c.args.kind _ (c.in-Some.ensures, c.requires)) c.near_text.ensures c.of.ensures

pub returns-in-None : goal.returns-in-None
returns-in-None c = help_says (HelpsUnknown c.args.blamed) _ c.undeclared.result (undeclared wanted.Value) c.undeclared.ensures
