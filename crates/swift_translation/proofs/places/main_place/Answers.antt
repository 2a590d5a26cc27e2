use Rattle.std.proofs.Common.{rules}
use Rattle.swift_translation.specs.MethodPlaces.{main}
use Rattle.swift_translation.proofs.places.main_place.Goals as goal

pub returns : goal.returns
returns c = record {
  lies = (c.lines_between-first.ensures.least, (c.lines_between-first.ensures.order, c.lines_between-first.ensures.most));
  method = main c.args.name c.requires c.lines_between-first.ensures.first (search rules);
}
