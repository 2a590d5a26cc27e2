use Rattle.std.proofs.Common.{rules}
use Rattle.swift_translation.specs.MethodPlaces.{of_instance}
use Rattle.swift_translation.proofs.places.method_place.Goals as goal

pub returns : goal.returns
returns c = record {
  lies = (c.lines_between-first.ensures.least, (c.lines_between-first.ensures.order, c.lines_between-first.ensures.most));
  method = of_instance c.args.instance c.args.method c.requires.instance c.requires.method c.lines_between-first.ensures.first (search rules);
}
