use Rattle.script_names.proofs.Keys.{place_or_all}
use Rattle.script_names.proofs.texts.Names.place_or_len.Goals as goal

pub returns-clause-place : goal.returns-clause-place
returns-clause-place c = cc (place_or_all c.args.self.now c.args.name.now c.place.result c.place.ensures.found c.place.ensures.place)
