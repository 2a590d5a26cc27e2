use Rattle.std.proofs.Common.{rules}
use Rattle.swift_translation.specs.MethodPlaces.{closure_of_main}
use Rattle.swift_translation.proofs.places.main_closure_place.Goals as goal

pub returns : goal.returns
returns c = record {
  lies = (c.requires.least, (c.requires.order, c.requires.most));
  method = closure_of_main c.args.which (search rules);
}
