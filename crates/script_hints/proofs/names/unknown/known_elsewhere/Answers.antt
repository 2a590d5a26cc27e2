use Rattle.std.proofs.Common.{subst}
use Rattle.script_context.specs.Declarations.{IsNamedAs}
use Rattle.script_hints.proofs.Told.{hint_is, help_says}
use Rattle.script_hints.specs.Helps.{HelpsUnknown, local, root}
use Rattle.script_hints.proofs.names.unknown.known_elsewhere.Goals as goal

pub returns-in-Local : goal.returns-in-Local
returns-in-Local c = help_says (HelpsUnknown c.args.blamed) _ c.read_local.result (local c.args.place (subst (IsNamedAs c.args.blamed.tokens.now c.args.place c.args.blamed.found.now) c.in-Local.is c.requires)) c.read_local.ensures

pub returns-in-Root : goal.returns-in-Root
returns-in-Root c = hint_is (HelpsUnknown c.args.blamed) _ c.of.result c.root_text-help.result (root c.args.place (subst (IsNamedAs c.args.blamed.tokens.now c.args.place c.args.blamed.found.now) c.in-Root.is c.requires)) c.root_text-help.ensures c.of.ensures
