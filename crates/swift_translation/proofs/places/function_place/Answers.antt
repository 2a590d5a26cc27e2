use Rattle.std.proofs.Common.{rules}
use Rattle.swift_translation.specs.MethodPlaces.{function}
use Rattle.swift_translation.proofs.places.function_place.Goals as goal

pub returns : goal.returns
returns c = record {
  lies = (c.lines_between-first.ensures.least, (c.lines_between-first.ensures.order, c.lines_between-first.ensures.most));
  method = function c.args.function c.requires c.lines_between-first.ensures.first (search rules);
}
