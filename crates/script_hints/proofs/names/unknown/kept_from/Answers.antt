use Rattle.script_hints.proofs.Told.{text_says}
use Rattle.script_hints.specs.Helps.{HelpsUnknown, unwanted, late, apart}
use Rattle.script_hints.proofs.names.unknown.kept_from.Goals as goal

pub returns-then-not-takes : goal.returns-then-not-takes
returns-then-not-takes c = text_says (HelpsUnknown c.args.blamed) _ c.other_text.result (unwanted c.args.place c.args.kind c.args.wanted c.requires) c.other_text.ensures

pub returns-then-is_in_its_let : goal.returns-then-is_in_its_let
returns-then-is_in_its_let c = text_says (HelpsUnknown c.args.blamed) _ c.late_text.result (late c.args.place c.args.kind c.requires) c.late_text.ensures

pub returns-else-is_in_its_let : goal.returns-else-is_in_its_let
returns-else-is_in_its_let c = text_says (HelpsUnknown c.args.blamed) _ c.apart_text.result (apart c.args.place c.args.kind c.requires) c.apart_text.ensures
