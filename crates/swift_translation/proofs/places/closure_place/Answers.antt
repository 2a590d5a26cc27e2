use Rattle.std.proofs.Common.{rules}
use Rattle.swift_translation.specs.MethodPlaces.{closure}
use Rattle.swift_translation.proofs.places.closure_place.Goals as goal

pub returns : goal.returns
returns c = record {
  lies = (c.requires.least, (c.requires.order, c.requires.most));
  method = closure c.args.instance c.args.method c.args.which c.requires.instance c.requires.method (search rules);
}
