use Rattle.script_hints.proofs.Told.{help_says}
use Rattle.script_hints.specs.Helps.{HelpsUnknown, this, truth, undeclared}
use Rattle.script_hints.proofs.names.unknown.unknown_hint.Goals as goal

pub returns : goal.returns
returns c = help_says (HelpsUnknown c.args.blamed) _ c.meant_number.result (truth c.in-Some.ensures) c.meant_number.ensures

pub returns-2 : goal.returns-2
returns-2 c = help_says (HelpsUnknown c.args.blamed) _ c.own_name.result (this c.in-Some-own_actor.ensures) c.own_name.ensures

pub returns-in-None : goal.returns-in-None
returns-in-None c = help_says (HelpsUnknown c.args.blamed) _ c.undeclared.result (undeclared c.wanted_at-wanted.result) c.undeclared.ensures
