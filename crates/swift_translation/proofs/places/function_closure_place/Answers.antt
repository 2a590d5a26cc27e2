use Rattle.std.proofs.Common.{rules}
use Rattle.swift_translation.specs.MethodPlaces.{closure_of_function}
use Rattle.swift_translation.proofs.places.function_closure_place.Goals as goal

pub returns : goal.returns
returns c = record {
  lies = (c.requires.least, (c.requires.order, c.requires.most));
  method = closure_of_function c.args.function c.args.which c.requires.function (search rules);
}
